-- The characters between the parts of a path.
use Rattle.std.specs.Prelude.{◌≢◌, ℕ, List, All}

-- b'/'
abbrev pub slash : ℕ
slash = 47

-- b'.'
abbrev pub dot : ℕ
dot = 46

-- the text has no such byte
abbrev pub Lacks : ℕ → List ℕ → Type 0
Lacks separator text = All (λ byte. byte ≢ separator) text
