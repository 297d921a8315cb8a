-- What a reader has to believe of text on a page: where a text goes, what is promised of the page, and the digits of a number.
pub mod Digits
pub mod Text
pub mod Page
