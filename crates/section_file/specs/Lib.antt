-- The section file and its answer: how numbers are laid out, which lines are printed, and what a text is answered.
-- The promise of `answer_text` cites Layout, Lines and Answer; Printing is for the code's own functions.
pub mod Layout
pub mod Lines
pub mod Answer
pub mod Examples
pub mod Printing
