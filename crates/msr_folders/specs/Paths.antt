-- The paths of files and folders.
use Rattle.std.specs.Prelude.{ℕ, Bool, List, [], ◌∷◌, ◌++◌, ◌==◌, ◌||◌, cond, codes}
use Rattle.std.specs.Char.{encode_utf8, is_ascii_control}
use Rattle.std.specs.List.{before_last, flat_map}
use Rattle.std.specs.Str.{chars}
use Rattle.msr_report.specs.Text.{hex_text}
use Rattle.msr_sds.specs.Folders.{is_slash}

-- what stands below a folder; below a folder without a name the path that no file has
abbrev pub joined : (folder path : List ℕ) → List ℕ
joined [] path = []
joined (f ∷ folder) [] = f ∷ folder
joined (f ∷ folder) (p ∷ path) = (f ∷ folder) ++ (codes "/" ++ (p ∷ path))

-- an entry of a folder, counted from the archive's own folder, whose path is empty
abbrev pub below : (folder name : List ℕ) → List ℕ
below [] name = name
below (f ∷ folder) name = (f ∷ folder) ++ (codes "/" ++ name)

-- the folder of a path: what stands before its last slash, nothing if it has none
abbrev pub folder_of : List ℕ → List ℕ
folder_of path = before_last is_slash path

-- a name with an ending; the path that no file has gets none
abbrev pub ended : (path ending : List ℕ) → List ℕ
ended [] ending = []
ended (p ∷ path) ending = (p ∷ path) ++ ending

-- a character as it is printed: a control character as `%` and the two hexadecimal digits of its byte
abbrev pub shown_letter : ℕ → List ℕ
shown_letter letter = cond (is_ascii_control letter) (37 ∷ hex_text letter) (encode_utf8 letter)

-- a path as it is printed
abbrev pub shown_path : List ℕ → List ℕ
shown_path path = flat_map shown_letter (chars path)

-- a character that stands in a string of JSON after a backslash: a quote or a backslash
abbrev pub is_marked : ℕ → Bool
is_marked letter = letter == 34 || letter == 92

-- a character in a string of JSON: a control character as `\u00` and the two hexadecimal digits of its byte
abbrev pub letter_json : ℕ → List ℕ
letter_json letter = cond (is_marked letter) (92 ∷ encode_utf8 letter)
    (cond (is_ascii_control letter) (codes "\\u00" ++ hex_text letter) (encode_utf8 letter))

-- a text as the inner part of a string of JSON
abbrev pub text_json : List ℕ → List ℕ
text_json text = flat_map letter_json (chars text)

-- the path of a folder as it is told
abbrev pub told_folder : List ℕ → List ℕ
told_folder [] = codes "."
told_folder (f ∷ folder) = f ∷ folder
