-- What an exact reader returns, by its contract, for a text whose value is known, or which is known to be
-- refused.
use Rattle.std.proofs.Common.{◌≡◌, ℕ, List, Option, Some, None, Result, Ok, Err, refl, ap, map, [], ◌∷◌}
use Rattle.std.specs.List.{AllByRecursion}
use Rattle.config_text.specs.Value.{IsRefused, Reads}
use Rattle.config_text.specs.Laws.Value.{IsValueOf}
use Rattle.config_text.specs.Refusals.{ReadsOr}

-- a text has at most one value: the law `one_value` of a kind
abbrev pub OneValue : {V : Type 0} → (List ℕ → V → Type 0) → Type 0
OneValue {V} grammar = (t : List ℕ) (v w : V) → grammar t v → grammar t w → v ≡ w

-- for a text with this value, an exact reader returns the value
pub read_some : {V : Type 0} {grammar : List ℕ → V → Type 0} → OneValue grammar
    → (t : List ℕ) (v : V) (r : Option V) → grammar t v → Reads grammar t r → r ≡ Some v
read_some one t v (Some w) text reads = ap Some (one t w v reads text)
read_some one t v None text reads = absurd (reads v text)

-- for a text that the grammar refuses, an exact reader returns `None`
pub read_none : {V : Type 0} (grammar : List ℕ → V → Type 0) (t : List ℕ) (r : Option V)
    → IsRefused grammar t → Reads grammar t r → r ≡ None
read_none grammar t (Some v) refused reads = absurd (refused v reads)
read_none grammar t None refused reads = refl

-- the same for a reader that returns a `Result`, with an error of any type: `ReadsText`, `ReadsBytes`,
-- `ReadsFault`
pub read_ok : {V E : Type 0} {grammar : List ℕ → V → Type 0} (refusal : E → Type 0) → OneValue grammar
    → (t : List ℕ) (v : V) (r : Result V E) → grammar t v → ReadsOr grammar refusal t r → r ≡ Ok v
read_ok refusal one t v (Ok w) text reads = ap Ok (one t w v reads text)
read_ok refusal one t v (Err e) text reads = absurd (reads.1 v text)

pub read_err : {V E : Type 0} (grammar : List ℕ → V → Type 0) (refusal : E → Type 0) (t : List ℕ)
    (r : Result V E)
    → IsRefused grammar t → ReadsOr grammar refusal t r → (e : E) × (r ≡ Err e) × refusal e
read_err grammar refusal t (Ok v) refused reads = absurd (refused v reads)
read_err grammar refusal t (Err e) refused reads = (e, refl, reads.0)

-- if the function that computes the grammar returns `None`, the grammar refuses the text
pub refused_by : {V : Type 0} {grammar : List ℕ → V → Type 0} {value_of : List ℕ → Option V}
    → IsValueOf grammar value_of → (t : List ℕ) → value_of t ≡ None → IsRefused grammar t
refused_by law t e v text = cc (e, law.found t v text)

-- a function computes the grammar if each value that it returns is the text's only value, and it returns
-- `None` only for refused texts
pub value_by : {V : Type 0} {grammar : List ℕ → V → Type 0} {value_of : List ℕ → Option V} → OneValue grammar
    → ((t : List ℕ) (v : V) → value_of t ≡ Some v → grammar t v)
    → ((t : List ℕ) → value_of t ≡ None → IsRefused grammar t) → IsValueOf grammar value_of
value_by {V} {grammar} {value_of} one derived refused =
    record { found = λ t v h. told t v (value_of t) refl h; derived = derived } where
      told : (t : List ℕ) (v : V) (o : Option V) → value_of t ≡ o → grammar t v → o ≡ Some v
      told t v (Some w) e h = ap Some (one t w v (derived t w e) h)
      told t v None e h = absurd (refused t e v h)

-- each text has the value in its row
abbrev pub AreRead : {V : Type 0} → (List ℕ → V → Type 0) → List (List ℕ × V) → Type 0
AreRead {V} grammar rows = AllByRecursion (λ (row : List ℕ × V). grammar row.0 row.1) rows

-- each of the texts is refused
abbrev pub AreRefused : {V : Type 0} → (List ℕ → V → Type 0) → List (List ℕ) → Type 0
AreRefused grammar texts = AllByRecursion (λ t. IsRefused grammar t) texts

-- both follow from the function that computes the grammar, by one equation of lists
pub all_read : {V : Type 0} {grammar : List ℕ → V → Type 0} {value_of : List ℕ → Option V}
    → IsValueOf grammar value_of → (rows : List (List ℕ × V))
    → map (λ row. value_of row.0) rows ≡ map (λ row. Some row.1) rows → AreRead grammar rows
all_read law [] e = tt
all_read law (row ∷ rows) e = (law.derived row.0 row.1 (cc (e)), all_read law rows (cc (e)))

pub all_refused : {V : Type 0} {grammar : List ℕ → V → Type 0} {value_of : List ℕ → Option V}
    → IsValueOf grammar value_of → (texts : List (List ℕ)) → map value_of texts ≡ map (λ t. None) texts
    → AreRefused grammar texts
all_refused law [] e = tt
all_refused law (t ∷ ts) e = (refused_by law t (cc (e)), all_refused law ts (cc (e)))
