-- The definition that must be believed: what is printed.
pub mod PrintedText
