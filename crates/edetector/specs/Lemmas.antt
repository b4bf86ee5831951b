-- What the laws of traits are proved by, and what private fields keep. A reader has to believe none of it: the checker has
-- proved every lemma, and no clause of a public function names a definition of these files.
pub mod Invariants
pub mod Limits
pub mod Mixtures
pub mod Places
pub mod Ratios
pub mod Sums
pub mod Tallies
