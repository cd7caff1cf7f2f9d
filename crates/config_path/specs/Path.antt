-- Paths: the mark of an optional path.
use Rattle.std.specs.Prelude.{◌≡◌, ◌≢◌, ℕ, List, ◌++◌, codes, Bool, true, false}
use Rattle.std.specs.Ordering.{nat_cmp, bool_cmp, then_cmp}
use Rattle.std.specs.Cmp.Lexicographic.{slice_cmp}
use Rattle.std.specs.declared.cmp.Ordering.{Ordering}
use Rattle.bstr.specs.Owned.{bstring_bytes}
use Rattle.config_path.specs.declared.path.Path.{Path}

-- marked: one leading `:(optional)` is cut off; without it all bytes are kept
abbrev pub Marked : List ℕ → Bool → List ℕ → Type 0
Marked text true kept = text ≡ codes ":(optional)" ++ kept
Marked text false kept = (kept ≡ text) × ((rest : List ℕ) → text ≢ codes ":(optional)" ++ rest)

-- the path that a text gives
abbrev pub IsPathOf : List ℕ → Path → Type 0
IsPathOf text path = Marked text path.is_optional (bstring_bytes path.value)

-- two paths with the same bytes and the same flag
pub record IsEqualPath (p q : Path) : Type 0 where
  pub bytes : bstring_bytes p.value ≡ bstring_bytes q.value
  pub flag : p.is_optional ≡ q.is_optional

-- the order of paths: by the bytes, then by the flag, false first
abbrev pub path_order : Path → Path → Ordering
path_order p q = then_cmp (λ a b. slice_cmp nat_cmp (bstring_bytes a.value) (bstring_bytes b.value))
    (λ a b. bool_cmp a.is_optional b.is_optional) p q
