-- What a reader has to believe of capture books (01, 'Capture book' and refusals 20 to 32).
pub mod Format
pub mod Reader
pub mod Writer
