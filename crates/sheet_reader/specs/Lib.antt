-- Definitions that contracts cite: what check_sheet answers, the walk over a sheet's points, and a pixel as one number. The questions stand
-- in `format` Sheet.
pub mod Reader
pub mod PixelNumber
