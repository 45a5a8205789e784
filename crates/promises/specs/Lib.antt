-- When a function's promise leaves nothing open.
-- Every public function has a theorem in its crate's proofs/Unique.antt that says so of its own promise.
pub mod Settles
