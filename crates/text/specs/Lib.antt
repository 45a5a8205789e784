-- Numbers as text: how bytes are words, how a word is a number, what a reader finds, and how a number is written.
-- Pieces is for the code's own functions; the public promises cite the others.
pub mod Bytes
pub mod Words
pub mod Numbers
pub mod Over
pub mod Read
pub mod Pieces
pub mod Written
