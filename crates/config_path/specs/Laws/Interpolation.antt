-- Each value has exactly one form, and one result in the path table.
use Rattle.std.proofs.Common.{◌≡◌, ◌≢◌, inl, inr, ◌⊎◌, ℕ, List, [], ◌∷◌, ◌++◌, codes, Option, None, Some}
use Rattle.std.proofs.Common.{Result, Bool, true, false, refl, sym, ap, ◌∙◌, subst, arith, drop, IsUtf8}
use Rattle.std.proofs.Common.{Err, ◌↔◌}
use Rattle.std.specs.declared.string.String.{String}
use Rattle.std.specs.declared.alloc.Global.{Global}
use Rattle.std.proofs.lemmas.Bool.Decides.{Decides-eqb, eqb_tells}
use Rattle.std.proofs.lemmas.Slice.Eq.{starts_is}
use Rattle.std.specs.declared.alloc.AllocError.{AllocError}
use Rattle.config_path.specs.declared.interpolate.Place.{Place}
use Rattle.config_path.specs.declared.interpolate.Place.TheVariants.{Username, Whole}
use Rattle.config_path.specs.declared.interpolate.Error.{Error}
use Rattle.config_path.specs.declared.interpolate.Error.TheVariants.{Memory}
use Rattle.config_path.specs.Interpolation.{Form, HasForm, below, join, IsOneName, Users, Known, PathResult}
use Rattle.config_path.specs.Interpolation.{WhereUtf8, Row, home_row, IsBelow, IsBelowUser, Gives, PathTable}
use Rattle.config_path.specs.Interpolation.{refusal, returned, IsAllocated, Interpolated, HaveOneHome}
use Rattle.config_path.specs.Interpolation.{IsOutOfMemory}
use Rattle.config_path.specs.Interpolation.Users.{no_lookup, looked_up}
use Rattle.config_path.specs.Interpolation.PathResult.{text, fault}
use Rattle.config_path.specs.Interpolation.WhereUtf8.{utf8, other_bytes}
use Rattle.config_path.specs.Interpolation.IsBelow.{no_dir, no_rest, both}
use Rattle.config_path.specs.Interpolation.Form.{empty, below_prefix, below_home, below_user, other}

-- the names are the same, and so is what follows them
pub record SameBelow (m n : List ℕ) (r s : Option (List ℕ)) : Type 0 where
  pub name : m ≡ n
  pub rest : r ≡ s

same_below : (m n : List ℕ) (r s : Option (List ℕ)) → below m r ≡ below n s → IsOneName m → IsOneName n
    → SameBelow m n r s
same_below [] [] None None e h k = record { name = refl; rest = refl }
same_below [] [] (Some r) (Some s) e h k = record { name = refl; rest = cc }
same_below [] (y ∷ n) (Some r) None e h k = absurd (k.0 (cc))
same_below [] (y ∷ n) (Some r) (Some s) e h k = absurd (k.0 (cc))
same_below (x ∷ m) [] None (Some s) e h k = absurd (h.0 (cc))
same_below (x ∷ m) [] (Some r) (Some s) e h k = absurd (h.0 (cc))
same_below (x ∷ m) (y ∷ n) r s e h k =
    let t = same_below m n r s (tails r s e) h.1 k.1 in
    record { name = cc (t.name, heads r s e); rest = t.rest } where
      tails : (r s : Option (List ℕ)) → below (x ∷ m) r ≡ below (y ∷ n) s → below m r ≡ below n s
      tails None None e = cc
      tails None (Some s) e = cc
      tails (Some r) None e = cc
      tails (Some r) (Some s) e = cc

      heads : (r s : Option (List ℕ)) → below (x ∷ m) r ≡ below (y ∷ n) s → x ≡ y
      heads None None e = cc
      heads None (Some s) e = cc
      heads (Some r) None e = cc
      heads (Some r) (Some s) e = cc
same_below m n r s e h k = absurd (grind arith)

same_rest : (r s : Option (List ℕ)) → below [] r ≡ below [] s → r ≡ s
same_rest r s e = (same_below [] [] r s e tt tt).rest

one_tail : (value t u : List ℕ) → value ≡ 126 ∷ t → value ≡ 126 ∷ u → t ≡ u
one_tail value t u p q = cc

-- a value has at most one form
pub one_form : (value : List ℕ) (f g : Form) → HasForm value f → HasForm value g → f ≡ g
one_form value empty empty p q = refl
one_form value empty (other w) p q = absurd (q.1 p)
one_form value (below_prefix r) (below_prefix s) p q = ap below_prefix (cc)
one_form value (below_prefix r) (other w) p q = absurd (q.2 r p)
one_form value (below_home r) (below_home s) p q = ap below_home (same_rest r s (one_tail _ _ _ p q))
one_form value (below_home r) (below_user n s) p q =
    absurd (q.1 (sym (same_below [] n r s (one_tail _ _ _ p q.0) tt q.2).name))
one_form value (below_home r) (other w) p q = absurd (q.3 _ p)
one_form value (below_user m r) (below_home s) p q =
    absurd (p.1 (same_below m [] r s (one_tail _ _ _ p.0 q) p.2 tt).name)
one_form value (below_user m r) (below_user n s) p q =
    let t = same_below m n r s (one_tail _ _ _ p.0 q.0) p.2 q.2 in cc
one_form value (below_user m r) (other w) p q = absurd (q.3 _ p.0)
one_form value (other w) empty p q = absurd (p.1 q)
one_form value (other w) (below_prefix s) p q = absurd (p.2 s q)
one_form value (other w) (below_home s) p q = absurd (p.3 _ q)
one_form value (other w) (below_user n s) p q = absurd (p.3 _ q.0)
one_form value (other w) (other v) p q = ap other (p.0 ∙ sym q.0)
one_form value f g p q = absurd (grind arith)

-- a text is a name, or a name, a `/` and a rest
some_below : (t : List ℕ)
    → (name : List ℕ) × ((rest : Option (List ℕ)) × (t ≡ below name rest) × IsOneName name)
some_below [] = ([], (None, refl, tt))
some_below (c ∷ t) =
    elim (eqb_tells c 47) [
      | inl h ↦ ([], (Some t, ap (λ b. b ∷ t) h.1, tt))
      | inr h ↦ let r = some_below t in longer r.0 r.1.0 r.1.1 r.1.2 h.1
    ] where
      longer : (name : List ℕ) (rest : Option (List ℕ)) → t ≡ below name rest → IsOneName name → c ≢ 47
          → (whole : List ℕ) × ((more : Option (List ℕ)) × (c ∷ t ≡ below whole more) × IsOneName whole)
      longer name None e h k = (c ∷ name, (None, ap (λ b. c ∷ b) e, (k, h)))
      longer name (Some rest) e h k = (c ∷ name, (Some rest, ap (λ b. c ∷ b) e, (k, h)))

-- a value has a form
pub some_form : (value : List ℕ) → (form : Form) × HasForm value form
some_form [] = (empty, refl)
some_form (c ∷ t) = told _ (starts_is Decides-eqb (c ∷ t) (codes "%(prefix)/") _ refl) where
  at_tilde : (name : List ℕ) (rest : Option (List ℕ)) → c ≡ 126 → t ≡ below name rest → IsOneName name
      → (form : Form) × HasForm (c ∷ t) form
  at_tilde [] rest h e k = (below_home rest, cc)
  at_tilde (x ∷ name) rest h e k = (below_user (x ∷ name) rest, (cc, (λ q. cc), k))

  told : (r : Bool)
      → (r ≡ true → (c ∷ t) ≡ codes "%(prefix)/" ++ drop 10 (c ∷ t))
      × ((rest : List ℕ) → (c ∷ t) ≡ codes "%(prefix)/" ++ rest → r ≡ true)
      → (form : Form) × HasForm (c ∷ t) form
  told true h = (below_prefix (drop 10 (c ∷ t)), h.0 refl)
  told false h =
      elim (eqb_tells c 126) [
        | inl k ↦ let r = some_below t in at_tilde r.0 r.1.0 k.1 r.1.1 r.1.2
        | inr k ↦ (
          other (c ∷ t),
          (
            refl,
            (λ q. cc),
            (λ rest q. let b = h.1 rest q in cc),
            (λ rest q. k.1 (cc)),
          ),
        )
      ]

-- ---- one result of a row

same_some : (x y : List ℕ) (o : Option (List ℕ)) → o ≡ Some x → o ≡ Some y → x ≡ y
same_some x y o p q = cc

some_none : (x : List ℕ) (o : Option (List ℕ)) → o ≡ Some x → ¬ (o ≡ None)
some_none x o p q = let e : Some x ≡ None = sym p ∙ q in cc (e)

-- a row with one result has one result with the check for UTF-8
one_where : (place : Place) (bytes : List ℕ) (P Q : Type 0) (r s : PathResult) → (P → Q → r ≡ s)
    → WhereUtf8 place bytes P r → WhereUtf8 place bytes Q s → r ≡ s
one_where place bytes P Q r s one (utf8 u p) (utf8 v q) = one p q
one_where place bytes P Q r s one (utf8 u p) (other_bytes n e) = absurd (n u)
one_where place bytes P Q r s one (other_bytes n e) (utf8 u q) = absurd (n u)
one_where place bytes P Q r s one (other_bytes n e) (other_bytes m f) = e ∙ sym f

one_below : (row : Row) (r s : PathResult) → IsBelow row r → IsBelow row s → r ≡ s
one_below row r s (no_dir n e) (no_dir m f) = e ∙ sym f
one_below row r s (no_dir n e) (no_rest dir d m f) = absurd (some_none dir row.dir d n)
one_below row r s (no_dir n e) (both dir rest d p w) = absurd (some_none dir row.dir d n)
one_below row r s (no_rest dir d m f) (no_dir n e) = absurd (some_none dir row.dir d n)
one_below row r s (no_rest dir d m e) (no_rest at b n f) =
    e ∙ (ap text (same_some dir at row.dir d b) ∙ sym f)
one_below row r s (no_rest dir d m e) (both at rest b p w) = absurd (some_none rest row.rest p m)
one_below row r s (both dir rest d p w) (no_dir n e) = absurd (some_none dir row.dir d n)
one_below row r s (both dir rest d p w) (no_rest at b n f) = absurd (some_none rest row.rest p n)
one_below row r s (both dir rest d p w) (both at more b q v) =
    let there = same_some dir at row.dir d b in
    let same = same_some rest more row.rest p q in
    one_where row.place rest _ _ r s (λ e f. e ∙ (cc (there) ∙ sym f)) w
    (subst (λ x. WhereUtf8 row.place x (s ≡ text (join at x)) s) (sym same) v)

one_user : (users : Users) → HaveOneHome users → (name : List ℕ) (rest : Option (List ℕ)) (r s : PathResult)
    → IsBelowUser users name rest r → IsBelowUser users name rest s → r ≡ s
one_user no_lookup one name rest r s p q = p ∙ sym q
one_user (looked_up may_give) one name rest r s p q =
    one_where Username name _ _ r s
    (λ h k. one_below _ r s h.2 (subst (λ x. IsBelow (home_row x rest) s) (one name k.0 h.0 k.1 h.1) k.2))
    p q

-- a form has at most one result
pub one_row : (known : Known) → HaveOneHome known.users → (form : Form) (r s : PathResult)
    → Gives known form r
    → Gives known form s → r ≡ s
one_row known one empty r s p q = p ∙ sym q
one_row known one (below_user name rest) r s p q = one_user known.users one name rest r s p q
one_row known one (other value) r s p q = one_where Whole value _ _ r s (λ e f. e ∙ sym f) p q
one_row known one form r s p q = one_below _ r s p q

-- a value has at most one result
pub one_result_of : (known : Known) → HaveOneHome known.users → (value : List ℕ) (r s : PathResult)
    → PathTable known value r → PathTable known value s → r ≡ s
one_result_of known one value r s p q =
    one_row known one p.form r s p.gives
    (subst (λ f. Gives known f s) (one_form value q.form p.form q.has_form p.has_form) q.gives)

-- ---- the table never gives `Memory`

where_memory : (place : Place) (bytes : List ℕ) (P : Type 0) (e : AllocError) → ¬ P
    → ¬ (WhereUtf8 place bytes P (fault (Memory e)))
where_memory place bytes P e never (utf8 u p) = never p
where_memory place bytes P e never (other_bytes n h) = cc (h)

below_memory : (row : Row) (e : AllocError) → row.missing ≢ fault (Memory e)
    → ¬ (IsBelow row (fault (Memory e)))
below_memory row e other_fault (no_dir n h) = other_fault (sym h)
below_memory row e other_fault (no_rest dir d n h) = cc (h)
below_memory row e other_fault (both dir rest d p w) = where_memory row.place rest _ e (λ h. cc (h)) w

user_memory : (users : Users) (name : List ℕ) (rest : Option (List ℕ)) (e : AllocError)
    → ¬ (IsBelowUser users name rest (fault (Memory e)))
user_memory no_lookup name rest e h = cc (h)
user_memory (looked_up may_give) name rest e w =
    where_memory Username name _ e (λ h. below_memory _ e (λ k. cc (k)) h.2) w

row_memory : (known : Known) (form : Form) (e : AllocError) → ¬ (Gives known form (fault (Memory e)))
row_memory known empty e h = cc (h)
row_memory known (below_user name rest) e h = user_memory known.users name rest e h
row_memory known (other value) e h = where_memory Whole value _ e (λ k. cc (k)) h
row_memory known form e h = below_memory _ e (λ k. cc (k)) h

pub never_memory : (known : Known) (value : List ℕ) (e : AllocError)
    → ¬ (PathTable known value (fault (Memory e)))
never_memory known value e p = row_memory known p.form e p.gives

-- ---- what is returned

-- an error of the table is returned as it is
pub returned_error : (known : Known) (value : List ℕ) (e : Error) → PathTable known value (refusal e)
    → Interpolated known value (Err e)
returned_error known value (Memory e) p = absurd (never_memory known value e p)
returned_error known value e p = record { result = _; table = p; allocated = refl }

is_returned : (result : PathResult) (r : Result (String Global) Error) → IsAllocated result r
    → ¬ (IsOutOfMemory r) → result ≡ returned r
is_returned result (Err (Memory e)) p n = absurd (n tt)
is_returned result r p n = p

-- the result is `Memory` or it is not
by_memory : (r : Result (String Global) Error) → ((e : AllocError) × (r ≡ Err (Memory e)))
    ⊎ (¬ (IsOutOfMemory r))
by_memory (Err (Memory e)) = inl (e, refl)
by_memory r = inr (λ h. h)

pub one_returned : (known : Known) → HaveOneHome known.users
    → (value : List ℕ) (r s : Result (String Global) Error)
    → Interpolated known value r → Interpolated known value s → (IsOutOfMemory r ↔ IsOutOfMemory s)
    → returned r ≡ returned s
one_returned known one value r s p q memory = elim (by_memory r) [
  | inl m ↦ elim (by_memory s) [
    | inl n ↦ rw (m.1, n.1) refl
    | inr n ↦ absurd (n (memory.0 (subst IsOutOfMemory (sym m.1) tt)))
  ]
  | inr m ↦ sym (is_returned p.result r p.allocated m)
      ∙ (one_result_of known one value p.result q.result p.table q.table
      ∙ is_returned q.result s q.allocated (λ h. m (memory.1 h)))
]

-- ---- another lookup, which may return what the first may return

where_more : (place : Place) (bytes : List ℕ) (P Q : Type 0) (r : PathResult) → (IsUtf8 bytes → P → Q)
    → WhereUtf8 place bytes P r → WhereUtf8 place bytes Q r
where_more place bytes P Q r more (utf8 u p) = utf8 u (more u p)
where_more place bytes P Q r more (other_bytes n e) = other_bytes n e

pub by_lookup : (install_dir home_dir : Option (List ℕ)) (P Q : List ℕ → Option (List ℕ) → Type 0)
    → ((name : List ℕ) (home : Option (List ℕ)) → IsUtf8 name → P name home → Q name home)
    → (value : List ℕ) (r : PathResult)
    → PathTable (record { install_dir = install_dir; home_dir = home_dir; users = looked_up P }) value r
    → PathTable (record { install_dir = install_dir; home_dir = home_dir; users = looked_up Q }) value r
by_lookup install_dir home_dir P Q more value r p =
    record { form = p.form; has_form = p.has_form; gives = row p.form p.gives } where
      row : (form : Form) → Gives (record { install_dir = install_dir; home_dir = home_dir; users = looked_up P })
          form r
          → Gives (record { install_dir = install_dir; home_dir = home_dir; users = looked_up Q }) form r
      row (below_user name rest) g = where_more Username name _ _ r (λ u h. (h.0, more name h.0 u h.1, h.2)) g
      row form g = g
