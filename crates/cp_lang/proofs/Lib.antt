mod Cutting
mod Digits
mod CutterLemmas
pub mod Printing
mod Steps
pub mod Bare
pub mod Bytewise
pub mod Layers
pub mod LexerLaws
pub mod Pieces
pub mod Placing
pub mod PrintedLemmas
pub mod PrinterLaws
pub mod Reached
pub mod Spellable
pub mod TreeReads
