-- The rows of a text, line by line.
use Rattle.std.proofs.Common.{◌≡◌, ◌<◌, ◌+◌, ◌++◌, ℕ, List, [], ◌∷◌, length, map, take, drop, get_or, Bor}
use Rattle.std.proofs.Common.{Bool, true, false, All, suc, refl, sym, ap, ◌∙◌, take-append-drop, arith}
use Rattle.std.proofs.lemmas.List.{append-nil, at_drop_more, length-map}
use mathlib.Core.List.{map-append}
use denote.Param.Members.{Mut}
use Rattle.std.specs.Fn.{CalledAt}
use Rattle.std.specs.List.{slice_split, take_while}
use Rattle.std.proofs.lemmas.List.Sums.{take_while-cons}
use Rattle.std.specs.Iterator.{Yields}
use Rattle.std.specs.Slice.Iter.{split_steps, split_rest, split_done, split_callee}
use Rattle.std.proofs.lemmas.Iterator.{YieldsList}
use Rattle.std.proofs.lemmas.Iterator.Splits.{YieldsList-from_slice_split}
use Rattle.std.proofs.lemmas.Iterator.Consumers.{YieldsList-at}
use Rattle.config_file.specs.Key.{Key, IsCut}
use Rattle.config_checks.specs.declared.row.Row.{Row}
use Rattle.config_checks.specs.declared.table.RowFault.{RowFault}
use Rattle.config_checks.specs.declared.table.RowFault.TheVariants.{NoVersion}
use Rattle.config_checks.specs.declared.table.BadRow.{BadRow}
use Rattle.config_checks.specs.declared.table.Marks.{Marks}
use Rattle.config_checks.specs.Rows.{lines_of, fields_of, is_no_comment, HasMarks, HasBadVersion, IsBadKind}
use Rattle.config_checks.specs.Rows.{IsBadRow, IsBadLine, AddsRow, AddsRows}

-- a `for` over the parts of a text takes them in order
pub parts_of : {F : Type 0} {g : Mut F (Bor ℕ × Unit {0}) Bool} {f : F} (s u t : _) (taken : List (Bor (List ℕ)))
    → Yields (split_steps g) u taken t → u ≡ s → (test : ℕ → Bool) (text : List ℕ) → split_rest s ≡ text
    → split_done s ≡ false → split_callee s ≡ f
    → ((x : ℕ) (b : Bool) (q : F) → CalledAt g f x b q → (q ≡ f) × (b ≡ test x))
    → YieldsList (split_steps g) (λ part. part.now) u (slice_split test text)
parts_of {g = g} s u t taken yields is test text rest done closure tests =
    YieldsList-at is (YieldsList-from_slice_split g test text rest done closure tests)

abbrev pub now : List (Bor (List ℕ)) → List (List ℕ)
now = map (λ line. line.now)

one_more : (lines : List (List ℕ)) (line : List ℕ) (a b c : List Row) → AddsRows lines a b → AddsRow line b c
    → AddsRows (lines ++ line ∷ []) a c
one_more [] line a b c same adds = (c, rw same at adds, refl)
one_more (first ∷ lines) line a b c so_far adds =
    (so_far.0, so_far.1, one_more lines line so_far.0 b c so_far.2 adds)

pub more_rows : (lines : List (Bor (List ℕ))) (line : Bor (List ℕ)) (a b c : List Row)
    → AddsRows (now lines) a b
    → AddsRow line.now b c → AddsRows (now (lines ++ line ∷ [])) a c
more_rows lines line a b c so_far adds =
    rw map-append (one_more (now lines) line.now a b c so_far adds)

-- the texts are those before a place, that at the place, and those behind it
parts_at : (all : List (List ℕ)) (before : List (Bor (List ℕ))) (here : Bor (List ℕ))
    → now before ≡ take (length before) all
    → (length before < length all) × (here.now ≡ get_or all (length before) here.now)
    → all ≡ now before ++ here.now ∷ drop (length before + 1) all
parts_at all before here first at =
    let count = length before in
    let from_here : drop count all ≡ here.now ∷ drop (count + 1) all =
    at_drop_more (λ l. l) all count here.now at.0 ∙ ap (λ l. l ∷ drop (count + 1) all) (sym at.1) in
    sym (take-append-drop count all) ∙ ap (λ l. l ++ drop count all) (sym first)
    ∙ ap (λ l. now before ++ l) from_here

-- the line after these lines is the first bad line
pub bad_line : (text : List ℕ) (lines : List (Bor (List ℕ))) (line : Bor (List ℕ)) (bad : BadRow)
    (rows rows' : List Row)
    → now lines ≡ take (length lines) (lines_of text)
    → (length lines < length (lines_of text)) × (line.now ≡ get_or (lines_of text) (length lines) line.now)
    → bad.line ≡ length lines + 1 → AddsRows (now lines) rows rows' → IsBadRow (fields_of line.now) bad.fault
    → IsBadLine text rows rows' bad
bad_line text lines line bad rows rows' before here numbered added fault =
    record {
      before = now lines;
      line = line.now;
      behind = drop (length lines + 1) (lines_of text);
      parts = parts_at (lines_of text) lines line before here;
      numbered = numbered ∙ ap (λ n. n + 1) (sym (length-map lines (λ line. line.now)));
      added = added;
      fault = fault;
    }

-- the fields have a key and marks, but what follows is a bad kind
pub bad_kind : (fields marked : List (List ℕ)) (key name : List ℕ) (words : List (List ℕ)) (k : Key) (m : Marks)
    (fault : RowFault) → fields ≡ key ∷ marked → IsCut key k → HasMarks marked m (name ∷ words)
    → IsBadKind name words fault → IsBadRow fields fault
bad_kind fields marked key name words k m fault parts is marks bad = grind arith

-- the fields have a key, but a bad version follows it
pub bad_version : (fields marked : List (List ℕ)) (key : List ℕ) (k : Key) (fault : RowFault)
    → fields ≡ key ∷ marked
    → IsCut key k → (fault ≡ NoVersion) × HasBadVersion marked → IsBadRow fields fault
bad_version fields marked key k fault parts is bad =
    rw bad.0 (key, marked, parts, (k, is), bad.1)

-- ---- fields, up to a comment

-- the piece begins no comment
abbrev pub IsNoComment : List ℕ → Type 0
IsNoComment piece = is_no_comment piece ≡ true

take_while_append : (pieces rest : List (List ℕ)) → All IsNoComment pieces
    → take_while is_no_comment (pieces ++ rest) ≡ pieces ++ take_while is_no_comment rest
take_while_append [] rest before = refl
take_while_append (first ∷ pieces) rest before =
    let later = take_while_append pieces rest (λ k d inside. before (suc k) d (omega (arith, inside))) in
    rw (take_while-cons, before 0 first (omega arith)) (ap (λ l. first ∷ l) later)

-- the piece after these pieces begins a comment
pub comment_ends : (all : List (List ℕ)) (pieces : List (Bor (List ℕ))) (piece : Bor (List ℕ))
    → now pieces ≡ take (length pieces) all
    → (length pieces < length all) × (piece.now ≡ get_or all (length pieces) piece.now)
    → All IsNoComment (now pieces) → is_no_comment piece.now ≡ false → take_while is_no_comment all ≡ now pieces
comment_ends all pieces piece first here before comment =
    let rest = drop (length pieces + 1) all in
    let ends : take_while is_no_comment (piece.now ∷ rest) ≡ [] = rw (take_while-cons, comment) in
    ap (take_while is_no_comment) (parts_at all pieces piece first here)
    ∙ take_while_append (now pieces) (piece.now ∷ rest) before ∙ ap (λ l. now pieces ++ l) ends
    ∙ append-nil (now pieces)

-- without a comment all pieces count
pub without_comment : (pieces : List (List ℕ)) → All IsNoComment pieces → take_while is_no_comment pieces ≡ pieces
without_comment pieces before =
    ap (take_while is_no_comment) (sym (append-nil pieces)) ∙ take_while_append pieces [] before ∙ append-nil pieces
