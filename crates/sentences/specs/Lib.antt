pub mod Lines
pub mod Written
pub mod Preamble
pub mod Sentence
pub mod Answers
pub mod Serving
