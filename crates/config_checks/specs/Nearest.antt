-- How many edits lead from one text to another, and which item of a list is the nearest.
use Rattle.std.specs.Prelude.{◌≡◌, ◌≢◌, ℕ, ◌<◌, ◌≤◌, nat_eq, List, ◌∷◌, ◌++◌, length, map, take}
use Rattle.std.specs.Prelude.{slice_index_or, All}
use Rattle.std.specs.Prelude.{◌||◌, nat_lt, if◌then◌else◌}
use Rattle.std.specs.Char.{to_ascii_lowercase}
use Rattle.strsim.specs.Edits.{levenshtein_row}

-- ---- how far two texts are apart

-- the text with `A` to `Z` in lower case, since edits ignore ASCII case
abbrev pub lower : List ℕ → List ℕ
lower = map to_ascii_lowercase

-- Levenshtein's distance: how many bytes have to be inserted, deleted or replaced, ignoring ASCII case
abbrev pub edits : List ℕ → List ℕ → ℕ
edits a b = levenshtein_row nat_eq (lower a) (lower b) (length (lower b))

-- the texts differ only in that two different neighboring bytes are swapped
pub data IsSwap : List ℕ → List ℕ → Type 0 where
  at_front : {x y : ℕ} {rest : List ℕ} → x ≢ y → IsSwap (x ∷ y ∷ rest) (y ∷ x ∷ rest)
  further : {x : ℕ} {xs ys : List ℕ} → IsSwap xs ys → IsSwap (x ∷ xs) (x ∷ ys)

-- `n` edits lead from one text to the other; if the texts differ only by a swap, that is one edit
pub data Edits (a b : List ℕ) (n : ℕ) : Type 0 where
  swapped : IsSwap (lower a) (lower b) → n ≡ 1 → Edits a b n
  counted : ¬ (IsSwap (lower a) (lower b)) → n ≡ edits a b → Edits a b n

-- the most edits between near texts: two if both have at least `long` bytes, otherwise one
abbrev pub most_edits : ℕ → List ℕ → List ℕ → ℕ
most_edits long a b = if nat_lt (length a) long || nat_lt (length b) long then 1 else 2

-- the texts are near: `n` edits lead from one to the other, and these are not too many for their lengths
abbrev pub FewEdits : ℕ → List ℕ → List ℕ → ℕ → Type 0
FewEdits long a b n = Edits a b n × (n ≤ most_edits long a b)

-- the first text is the second one without one run of bytes, which may be empty
pub data LeavesOut : List ℕ → List ℕ → Type 0 where
  skipped : {a b : List ℕ} (word : List ℕ) → b ≡ word ++ a → LeavesOut a b
  kept : {x : ℕ} {xs ys : List ℕ} → LeavesOut xs ys → LeavesOut (x ∷ xs) (x ∷ ys)

-- the first text has at least five bytes, and is the second one without one run of bytes, ignoring ASCII case
abbrev pub LacksRun : List ℕ → List ℕ → Type 0
LacksRun a b = (5 ≤ length a) × LeavesOut (lower a) (lower b)

-- both texts begin with the same six bytes or more, ignoring ASCII case, and at most three bytes of each follow
abbrev pub HasOtherEnd : List ℕ → List ℕ → Type 0
HasOtherEnd a b = (front x y : List ℕ) × (lower a ≡ front ++ x) × (lower b ≡ front ++ y)
    × (6 ≤ length front) × (length x ≤ 3) × (length y ≤ 3)

-- ---- the nearest of several

-- no item is `n` or fewer edits away
abbrev pub AreBeyond : {A : Type 0} → (A → ℕ → Type 0) → ℕ → List A → Type 0
AreBeyond Apart n items = All (λ item. (m : ℕ) → Apart item m → n < m) items

-- all items are far: no item is three or fewer edits away
abbrev pub AreFar : {A : Type 0} → (A → ℕ → Type 0) → List A → Type 0
AreFar Apart = AreBeyond Apart 3

-- the item is `n` edits away, and no item before it is as near
pub record IsFirstAt {A : Type 0} (Apart : A → ℕ → Type 0) (items : List A) (n : ℕ) (item : A) : Type 0 where
  pub place : ℕ
  pub inside : place < length items
  pub stands : slice_index_or items place item ≡ item
  pub apart : Apart item n
  pub first : AreBeyond Apart n (take place items)

-- the first of the nearest items, which is at most three edits away
pub record IsNearest {A : Type 0} (Apart : A → ℕ → Type 0) (items : List A) (item : A) : Type 0 where
  pub edits : ℕ
  pub few : edits ≤ 3
  pub at : IsFirstAt Apart items edits item
  pub least : All (λ other. (m : ℕ) → Apart other m → edits ≤ m) items
