-- Texts put one after the other.
use Rattle.std.proofs.Common.{◌≡◌, ℕ, List, [], ◌++◌, append_assoc}

pub four_parts : (a b c d s t u v w : List ℕ) → s ≡ [] → t ≡ s ++ a → u ≡ t ++ b → v ≡ u ++ c → w ≡ v ++ d → w ≡ a ++ (b ++ (c ++ d))
four_parts a b c d s t u v w e0 e1 e2 e3 e4 = rw (e4, e3, e2, e1, e0) (simp append_assoc)
