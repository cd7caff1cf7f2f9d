-- The laws of words: each text has one list of words, which the function gives; the words of two texts that
-- are joined by white space; and the first word of a text that is read from the front.
use Rattle.std.proofs.Common.{◌≡◌, ℕ, zero, suc, ◌+◌, ◌-◌, ◌<◌, ◌≤◌, ◌⊎◌, inl, inr}
use Rattle.std.proofs.Common.{List, [], ◌∷◌, ◌++◌, length, map, get_or, take, drop, slice_range, Option, Some}
use Rattle.std.proofs.Common.{replicate, None, refl, sym, ap, subst, ◌∙◌, append_assoc, arith}
use Rattle.std.proofs.Common.{length-append, length-drop, length-take}
use Rattle.std.proofs.lemmas.Bool.Decides.{Decides-eqb, eqb_tells, leb_tells}
use Rattle.std.proofs.lemmas.List.{append-nil, take-append-drop, drop-drop, take_all, take_rest}
use Rattle.std.proofs.Math.Seq.{take-append_seam, drop-append_seam}
use Rattle.config_text.specs.OneOf.{OneOf}
use Rattle.config_color.specs.Space.{spellings, Space}
use Rattle.config_color.specs.Laws.Space.{no_empty}
use Rattle.config_color.specs.Words.{HasNoSpace, piece, Words}
use Rattle.config_color.specs.Reading.Split.{IsWithoutSpace, after, after_one, after_space, Cut, cut_at}
use Rattle.config_color.specs.Reading.Color.{FirstWordEnds}
use Rattle.config_color.specs.Reading.Split.{last_cut, words_within, words}

pub space_byte : Space (32 ∷ [])
unfolding spellings
space_byte = inr (inr (inr (inr (inr (inl refl)))))

-- an `Option` is `None` or has a value
pub option_told : {A : Type 0} (o : Option A) → (o ≡ None) ⊎ ((x : A) × (o ≡ Some x))
option_told None = inl refl
option_told (Some x) = inr (x, refl)

space_some : (space : List ℕ) → Space space → 0 < length space
space_some [] s = absurd (no_empty s)
space_some (x ∷ more) s = omega arith

after_append : (front text : List ℕ) → after front (front ++ text) ≡ Some text
after_append [] text = refl
after_append (x ∷ front) text = rw ((Decides-eqb x x).1 refl) (after_append front text)

after_is : (front text rest : List ℕ) → after front text ≡ Some rest → text ≡ front ++ rest
after_is [] text rest h = cc
after_is (x ∷ front) [] rest h = absurd (cc)
after_is (x ∷ front) (y ∷ text) rest h =
    elim (eqb_tells x y) [
      | inl p ↦ let k = rw p.0 at h in cc (after_is front text rest k)
      | inr p ↦ let k = rw p.0 at h in absurd (cc)
    ]

after_one_is : (rows : List (List ℕ)) (text rest : List ℕ) → after_one rows text ≡ Some rest
    → (space : List ℕ) × OneOf rows space × (text ≡ space ++ rest)
after_one_is [] text rest h = absurd (cc)
after_one_is (row ∷ rows) text rest h =
    elim (option_told (after row text)) [
      | inl n ↦ let found = after_one_is rows text rest (rw n at h) in (found.0, inr found.1, found.2)
      | inr r ↦ let k = rw r.1 at h in (row, inl refl, after_is row text rest (r.1 ∙ k))
    ]

-- if `after_space` returns a rest, the text is a spelling and that rest
pub after_space_is : (text rest : List ℕ) → after_space text ≡ Some rest
    → (space : List ℕ) × Space space × (text ≡ space ++ rest)
unfolding after_space spellings
after_space_is text rest h = after_one_is spellings text rest h

-- the last cut of the end of a text is the last cut of the whole text
cut_append : (before text b r : List ℕ) → last_cut text ≡ Some (b, r)
    → last_cut (before ++ text) ≡ Some (before ++ b, r)
cut_append [] text b r h = h
cut_append (x ∷ before) text b r h = rw (cut_append before text b r h) refl

-- the last cut of `front ++ rest`, if `rest` has no cut
abbrev cut_in : List ℕ → List ℕ → Option Cut
cut_in [] rest = None
cut_in (x ∷ front) rest = cut_at x (after_space (x ∷ front ++ rest)) (cut_in front rest)

cut_in-is : (front rest : List ℕ) → last_cut rest ≡ None → last_cut (front ++ rest) ≡ cut_in front rest
cut_in-is [] rest h = h
cut_in-is (x ∷ front) rest h = rw (cut_in-is front rest h) refl

-- each spelling is cut at its front
each_cut : (rest : List ℕ) → map (λ row. cut_in row rest) spellings ≡ map (λ row. Some ([], rest)) spellings
unfolding after_space spellings
each_cut rest = refl

-- if a text begins with a spelling, and has no cut after it, its last cut is at its front
last_space : (space rest : List ℕ) → Space space → last_cut rest ≡ None
    → last_cut (space ++ rest) ≡ Some ([], rest)
unfolding spellings
last_space space rest s h = cut_in-is space rest h ∙ same_at spellings (each_cut rest) s where
  same_at : (rows : List (List ℕ)) → map (λ row. cut_in row rest) rows ≡ map (λ row. Some ([], rest)) rows
      → OneOf rows space
      → cut_in space rest ≡ Some ([], rest)
  same_at [] e o = absurd o
  same_at (row ∷ rows) e (inl is) = rw is (cc)
  same_at (row ∷ rows) e (inr o) = same_at rows (cc) o

-- a text is what comes before its last cut, a spelling, and what follows the cut
cut_parts : (text : List ℕ) (cut : Cut) → last_cut text ≡ Some cut
    → (space : List ℕ) × Space space × (text ≡ cut.0 ++ space ++ cut.1)
cut_parts [] cut h = absurd (cc)
cut_parts (x ∷ text) cut h =
    elim (option_told (last_cut text)) [
      | inr c ↦
          let e = rw c.1 at h in
          let k = cut_parts text c.0 c.1 in (k.0, k.1, cc (e, k.2))
      | inl n ↦ elim (option_told (after_space (x ∷ text))) [
        | inr r ↦
            let e = rw (n, r.1) at h in
            let k = after_space_is (x ∷ text) r.0 r.1 in (k.0, k.1, cc (e, k.2))
        | inl m ↦ let e = rw (n, m) at h in absurd (cc)
      ]
    ]

-- what comes before the last cut is shorter than the text
cut_shorter : (text : List ℕ) (cut : Cut) → last_cut text ≡ Some cut → length cut.0 < length text
cut_shorter text cut h =
    let p = cut_parts text cut h in
    omega (arith, simp length-append at (ap length p.2), space_some p.0 p.1)

within_enough : (n m : ℕ) (text : List ℕ) → length text ≤ n → length text ≤ m
    → words_within n text ≡ words_within m text
within_enough zero zero text p q = refl
within_enough (suc n) (suc m) text p q =
    elim (option_told (last_cut text)) [
      | inl e ↦ rw e refl
      | inr c ↦ let less = cut_shorter text c.0 c.1 in
          rw c.1 (ap (λ ws. ws ++ piece c.0.1) (within_enough n m c.0.0 (omega arith) (omega arith)))
    ]
within_enough n m [] p q = refl
within_enough n m (x ∷ text) p q = absurd (omega arith)

-- the words of a text without a cut: the text itself, or no word if it is empty
pub words_none : (text : List ℕ) → last_cut text ≡ None → words text ≡ piece text
unfolding words
words_none [] h = refl
words_none (x ∷ text) h = rw h refl

-- the words of a text with a cut: the words of what comes before the last cut, then what follows it
pub words_some : (text : List ℕ) (cut : Cut) → last_cut text ≡ Some cut
    → words text ≡ words cut.0 ++ piece cut.1
unfolding words
words_some [] cut h = absurd (cc)
words_some (x ∷ text) cut h =
    rw h (ap (λ ws. ws ++ piece cut.1)
    (within_enough (length text) (length cut.0) cut.0 (omega (arith, cut_shorter (x ∷ text) cut h))
    (omega arith)))

words_joined_within : (n : ℕ) (before space rest : List ℕ) → length rest < n → Space space
    → words (before ++ (space ++ rest)) ≡ words before ++ words rest
words_joined_within zero before space rest l s = absurd (omega arith)
words_joined_within (suc n) before space rest l s =
    elim (option_told (last_cut rest)) [
      | inl e ↦ words_some (before ++ (space ++ rest)) (before ++ [], rest)
          (cut_append before (space ++ rest) [] rest (last_space space rest s e))
          ∙ rw (append-nil, words_none rest e)
      | inr c ↦ words_some (before ++ (space ++ rest)) (before ++ (space ++ c.0.0), c.0.1)
          (cut_append before (space ++ rest) (space ++ c.0.0) c.0.1 (cut_append space rest c.0.0 c.0.1 c.1))
          ∙ rw (
            words_joined_within n before space c.0.0 (omega (arith, cut_shorter rest c.0 c.1)) s,
            words_some rest c.0 c.1,
            append_assoc,
          )
    ]

-- the words of two texts joined by white space are those of the first, then those of the second
pub words_joined : (before space rest : List ℕ) → Space space
    → words (before ++ space ++ rest) ≡ words before ++ words rest
words_joined before space rest s =
    rw append_assoc (words_joined_within (length rest + 1) before space rest (omega arith) s)

-- a text has the same words without a run of spaces at its front
past_run : (n : ℕ) (cs : List ℕ) → words (drop n (replicate n 32 ++ cs)) ≡ words (replicate n 32 ++ cs)
unfolding words
past_run zero cs = refl
past_run (suc n) cs = past_run n cs ∙ sym (words_joined [] (32 ∷ []) (replicate n 32 ++ cs) space_byte)

pub words_past_run : (n : ℕ) (t cs : List ℕ) → t ≡ replicate n 32 ++ cs
    → words (take (length t - n) (drop n t)) ≡ words t
words_past_run n t cs run = ap words (take_rest t n) ∙ rw run (past_run n cs)

-- a text has the same words without a space at its front
pub words_past_space : (t : List ℕ) → 1 ≤ length t → get_or t 0 0 ≡ 32
    → words (take (length t - 1) (drop 1 t)) ≡ words t
words_past_space [] l e = absurd (omega arith)
words_past_space (c ∷ cs) l e = words_past_run 1 (c ∷ cs) cs (ap (λ b. b ∷ cs) e)

-- a text without white space has no cut
no_cut : (text : List ℕ) → HasNoSpace text → last_cut text ≡ None
no_cut text h =
    elim (option_told (last_cut text)) [
      | inl e ↦ e
      | inr c ↦ let k = cut_parts text c.0 c.1 in absurd (h c.0.0 k.0 c.0.1 k.1 k.2)
    ]

-- if no white space begins at the first `n` places, the first `n` bytes have no cut
uncut : (n : ℕ) (text : List ℕ) → IsWithoutSpace text n → last_cut (take n text) ≡ None
uncut n text h = no_cut (take n text) (λ before space rest s e.
    let whole : text ≡ before ++ (space ++ (rest ++ drop n text)) =
    sym (take-append-drop n text) ∙ ap (λ t. t ++ drop n text) e ∙ simp append_assoc in
    let size = simp length-append at (ap length e) in
    h (length before) (omega (arith, size, length-take n text, space_some space s)) space
    (rest ++ drop n text) s
    (ap (drop (length before)) whole ∙ drop-append_seam before (space ++ (rest ++ drop n text))))

-- a text in three parts
pub three_parts : (text : List ℕ) (n s : ℕ)
    → text ≡ take n text ++ take s (drop n text) ++ drop (n + s) text
three_parts text n s = rw (append_assoc, ← (drop-drop s n text), take-append-drop, take-append-drop)

-- the words of a text whose first white space begins at place `n` and has `s` bytes
pub words_step : (text : List ℕ) (n s : ℕ) → IsWithoutSpace text n → Space (slice_range text n (n + s))
    → words text ≡ piece (take n text) ++ words (drop (n + s) text)
words_step text n s h k =
    let size : n + s - n ≡ s = omega arith in
    ap words (three_parts text n s)
    ∙ words_joined (take n text) (take s (drop n text)) (drop (n + s) text) (rw size at k)
    ∙ ap (λ ws. ws ++ words (drop (n + s) text)) (words_none (take n text) (uncut n text h))

-- the words of a text in which no white space begins
pub words_last : (text : List ℕ) → IsWithoutSpace text (length text) → words text ≡ piece text
words_last text h = words_none text
    (let k = uncut (length text) text h in ap last_cut (sym (take_all (length text) text (omega arith))) ∙ k)

-- a text without white space is its only word, or has no word if it is empty
pub words_whole : (text : List ℕ) → HasNoSpace text → words text ≡ piece text
words_whole text h = words_none text (no_cut text h)

-- a text without a cut has no white space
uncut_whole : (text : List ℕ) → last_cut text ≡ None → HasNoSpace text
uncut_whole text h before space rest s e =
    let same = ap last_cut (e ∙ append_assoc before space rest) in
    elim (option_told (last_cut rest)) [
      | inl n ↦ cc (h, same, cut_append before (space ++ rest) [] rest (last_space space rest s n))
      | inr c ↦ cc (
        h,
        same,
        cut_append before (space ++ rest) (space ++ c.0.0) c.0.1
            (cut_append space rest c.0.0 c.0.1 c.1),
      )
    ]

-- what follows the last cut has no cut
cut_is_last : (text : List ℕ) (cut : Cut) → last_cut text ≡ Some cut → last_cut cut.1 ≡ None
cut_is_last text cut h =
    elim (option_told (last_cut cut.1)) [
      | inl e ↦ e
      | inr c ↦
          let p = cut_parts text cut h in
          let q = cut_parts cut.1 c.0 c.1 in
          let k : last_cut text ≡ Some (cut.0 ++ p.0 ++ c.0.0, c.0.1) =
          ap last_cut p.2 ∙ cut_append (cut.0 ++ p.0) cut.1 c.0.0 c.0.1 c.1 in
          let same : cut.1 ≡ c.0.1 = cc (h, k) in
          absurd (omega (
            arith,
            ap length same,
            simp length-append at (ap length q.2),
            space_some q.0 q.1,
          ))
    ]

-- the function gives the words of a text
pub words_are : (text : List ℕ) → Words text (words text)
words_are text = within (length text + 1) text (omega arith) where
  within : (n : ℕ) (text : List ℕ) → length text < n → Words text (words text)
  within zero text l = absurd (omega arith)
  within (suc n) text l =
      elim (option_told (last_cut text)) [
        | inl e ↦ rw (words_none text e) (Words.whole text (uncut_whole text e))
        | inr (c, e) ↦
            let p = cut_parts text c e in
            let before = within n c.0 (omega (arith, cut_shorter text c e)) in
            rw (words_some text c e) (subst (λ (t : List ℕ). Words t (words c.0 ++ piece c.1)) (sym p.2)
            (Words.cut c.0 p.0 c.1 (words c.0) before p.1 (uncut_whole c.1 (cut_is_last text c e))))
      ]

-- a text has no other words
pub words_only : {text : List ℕ} {ws : List (List ℕ)} → Words text ws → ws ≡ words text
words_only (Words.whole t h) = sym (words_whole t h)
words_only (Words.cut b s r ws w k h) = rw (words_joined b s r k, words_whole r h, words_only w)

pub one_words : (text : List ℕ)
    → (ws : List (List ℕ)) × Words text ws × ((vs : List (List ℕ)) → Words text vs → vs ≡ ws)
one_words text = (words text, words_are text, λ vs w. words_only w)

-- the words of two texts joined by white space are those of the first, then those of the second
pub joined_words : (before space rest : List ℕ) (ws vs : List (List ℕ)) → Space space → Words before ws
    → Words rest vs
    → Words (before ++ space ++ rest) (ws ++ vs)
joined_words before space rest ws vs s w v =
    rw (words_only w, words_only v, ← (words_joined before space rest s))
    (words_are (before ++ space ++ rest))

-- what begins with one of the rows has something after one of them
after_one_some : (rows : List (List ℕ)) (row rest : List ℕ) → OneOf rows row
    → after_one rows (row ++ rest) ≡ None → ⊥
after_one_some [] row rest o e = absurd o
after_one_some (first ∷ rows) row rest (inl same) e =
    let k : after first (row ++ rest) ≡ Some rest = rw same (after_append first rest) in
    let m = rw k at e in cc
after_one_some (first ∷ rows) row rest (inr o) e =
    elim (option_told (after first (row ++ rest))) [
      | inl n ↦ after_one_some rows row rest o (rw n at e)
      | inr t ↦ let m = rw t.1 at e in cc
    ]

-- if `after_space` returns no rest, the text does not begin with white space
no_space_begins : (text : List ℕ) → after_space text ≡ None → (space rest : List ℕ) → Space space
    → ¬ (text ≡ space ++ rest)
unfolding after_space spellings
no_space_begins text e space rest s same =
    after_one_some spellings space rest s (ap (after_one spellings) (sym same) ∙ e)

-- if no white space begins before place `from`, the first word ends there or later
pub first_end : (n from : ℕ) (text : List ℕ) → from + n ≡ length text → IsWithoutSpace text from
    → (before space : ℕ) × (from ≤ before) × FirstWordEnds text before space
first_end zero from text e clear = (
  from,
  0,
  omega arith,
  record {
    clear = clear;
    within = omega arith;
    parted = λ h. absurd (omega arith);
    last = λ h. omega arith;
  },
)
first_end (suc n) from text e clear =
    elim (option_told (after_space (drop from text))) [
      | inl none ↦
          let end = first_end n (suc from) text (omega arith) (λ k l space rest s. elim (leb_tells from k) [
            | inl q ↦ let here : k ≡ from = omega (arith, q.1) in
                rw here (no_space_begins (drop from text) none space rest s)
            | inr q ↦ clear k q.1 space rest s
          ]) in
          (end.0, end.1, omega (arith, end.2), end.3)
      | inr (rest, found) ↦
          let begins = after_space_is (drop from text) rest found in
          let size = ap length begins.2 in
          let some = space_some begins.0 begins.1 in
          let same : from + length begins.0 - from ≡ length begins.0 = omega arith in
          let part : slice_range text from (from + length begins.0) ≡ begins.0 =
          rw same (ap (take (length begins.0)) begins.2 ∙ take-append_seam begins.0 rest) in (
            from,
            length begins.0,
            omega arith,
            record {
              clear = clear;
              within = omega (arith, size, length-drop from text, length-append begins.0 rest);
              parted = λ l. rw part begins.1;
              last = λ z. absurd (omega (arith, some, z));
            },
          )
    ]
