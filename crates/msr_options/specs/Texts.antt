-- What a list of texts shows.
use Rattle.std.specs.Prelude.{List, ℕ, map, String}
use Rattle.std.specs.String.{string_bytes}

-- the bytes of each
abbrev pub texts_of : {Z : Type 0} → List (String Z) → List (List ℕ)
texts_of texts = map string_bytes texts
