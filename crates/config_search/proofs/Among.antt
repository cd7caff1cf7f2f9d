-- Whether a folder is among others, one by one.
use Rattle.std.proofs.Common.{◌≡◌, ◌∙◌, ◌<◌, ◌+◌, ℕ, Bool, List, Bor, Contains, true, false, map, take, length, slice_index_or, sym}
use Rattle.std.specs.Str.{bytes_eq}
use Rattle.std.proofs.lemmas.Bool.{true≢false}
use Rattle.std.proofs.lemmas.Option.{slice_get-get_or}
use Rattle.std.proofs.lemmas.Slice.Eq.{bytes_eq-Decides}
use Rattle.config_file.proofs.Picked.{among_here, among_no_more}

pub is_here : (folders : List (Bor (List ℕ))) (i : ℕ) (d : Bor (List ℕ)) (folder : List ℕ) (is : Bool) → i < length folders
    → is ≡ bytes_eq (slice_index_or folders i d).now folder → is ≡ true → Contains (map (λ c. c.now) folders) folder
is_here folders i d folder is within tells yes_is =
    among_here (λ c. c.now) folders i (slice_index_or folders i d) folder (slice_get-get_or folders i d within) within
    ((bytes_eq-Decides (slice_index_or folders i d).now folder).0 (sym tells ∙ yes_is))

pub not_here : (folders : List (Bor (List ℕ))) (i : ℕ) (d : Bor (List ℕ)) (folder : List ℕ) (is : Bool) → i < length folders
    → is ≡ bytes_eq (slice_index_or folders i d).now folder → is ≡ false
    → ¬ (Contains (map (λ c. c.now) (take i folders)) folder)
    → ¬ (Contains (map (λ c. c.now) (take (i + 1) folders)) folder)
not_here folders i d folder is within tells not_is before =
    among_no_more (λ c. c.now) folders i (slice_index_or folders i d) folder (slice_get-get_or folders i d within) within
    (λ same. true≢false (sym ((bytes_eq-Decides (slice_index_or folders i d).now folder).1 same) ∙ sym tells ∙ not_is)) before
