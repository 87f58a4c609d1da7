mod Branches
mod ReaderParts
mod Laws
pub mod SheetAnswers
pub mod PixelNumber
