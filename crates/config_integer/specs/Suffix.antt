-- Suffixes: the units k, m and g.
--
-- Look for: six letters; the factors are 2 to the 10th, 20th and 30th.
use Rattle.std.specs.Prelude.{◌≡◌, ℕ, ◌⊎◌, List, codes}
use Rattle.config_integer.specs.declared.suffix.Suffix.{Suffix}
use Rattle.config_integer.specs.declared.suffix.Suffix.TheVariants.{Kibi, Mebi, Gibi}

-- suffix text: the letter of the unit, in either case
abbrev pub SuffixText : List ℕ → Suffix → Type 0
SuffixText t Kibi = (t ≡ codes "k") ⊎ (t ≡ codes "K")
SuffixText t Mebi = (t ≡ codes "m") ⊎ (t ≡ codes "M")
SuffixText t Gibi = (t ≡ codes "g") ⊎ (t ≡ codes "G")

-- the number that a suffix multiplies by
abbrev pub factor : Suffix → ℕ
factor Kibi = 1024
factor Mebi = 1048576
factor Gibi = 1073741824

-- the exponent: the factor is 2 to the power of this number
abbrev pub offset : Suffix → ℕ
offset Kibi = 10
offset Mebi = 20
offset Gibi = 30

-- how a suffix is shown
abbrev pub suffix_shown : Suffix → List ℕ
suffix_shown Kibi = codes "k"
suffix_shown Mebi = codes "m"
suffix_shown Gibi = codes "g"

-- the canonical texts of suffixes: the letters in lower case
abbrev pub CanonicalSuffix : List ℕ → Type 0
CanonicalSuffix t = (t ≡ codes "k") ⊎ (t ≡ codes "m") ⊎ (t ≡ codes "g")
