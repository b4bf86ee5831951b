-- Lists of bytes.
use Rattle.std.specs.Prelude.{ℕ, ◌<◌, List, [], ◌∷◌, length, replicate}

-- every number is a byte
abbrev pub Bytes : List ℕ → Type 0
Bytes [] = Unit {0}
Bytes (b ∷ rest) = (b < 256) × Bytes rest

-- as many zero bytes as the list has bytes
abbrev pub zeros : List ℕ → List ℕ
zeros bs = replicate (length bs) 0
