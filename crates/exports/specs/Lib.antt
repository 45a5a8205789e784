-- What the exported functions tell, beside the rules and the section file's definitions.
-- Of bytes written over a buffer Over of text/specs speaks.
pub mod Told
