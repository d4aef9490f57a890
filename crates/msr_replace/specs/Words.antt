-- The words with which lines begin.
use Rattle.std.specs.Prelude.{ℕ, Bool, true, false, List, codes}
use Rattle.msr_replace.specs.declared.words.Word.{Word}
use Rattle.msr_replace.specs.declared.words.Word.TheVariants as word

-- its place among all words
abbrev pub word_number : Word → ℕ
word_number word.Replaced = 0
word_number word.Same = 1
word_number word.Young = 2
word_number word.Larger = 3
word_number word.Changed = 4
word_number word.Skipped = 5
word_number word.Refused = 6
word_number word.Missing = 7
word_number word.NotShown = 8
word_number word.Differs = 9
word_number word.Orphan = 10
word_number word.Unfinished = 11
word_number word.Restored = 12

abbrev pub text_of : Word → List ℕ
text_of word.Replaced = codes "replaced"
text_of word.Same = codes "same"
text_of word.Young = codes "young"
text_of word.Larger = codes "larger"
text_of word.Changed = codes "changed"
text_of word.Skipped = codes "skipped"
text_of word.Refused = codes "refused"
text_of word.Missing = codes "missing"
text_of word.NotShown = codes "notshown"
text_of word.Differs = codes "differs"
text_of word.Orphan = codes "orphan"
text_of word.Unfinished = codes "unfinished"
text_of word.Restored = codes "restored"

-- a day is as it should be
abbrev pub is_well : Word → Bool
is_well word.Replaced = true
is_well word.Same = true
is_well word.Young = true
is_well word.Larger = true
is_well word.Restored = true
is_well _ = false

-- something is to be looked at: it is neither that, nor skipped
abbrev pub is_unwell : Word → Bool
is_unwell word.Replaced = false
is_unwell word.Same = false
is_unwell word.Young = false
is_unwell word.Larger = false
is_unwell word.Restored = false
is_unwell word.Skipped = false
is_unwell _ = true
