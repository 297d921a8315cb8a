pub mod Texts
mod Pages
pub mod Numbers
mod Theorems
