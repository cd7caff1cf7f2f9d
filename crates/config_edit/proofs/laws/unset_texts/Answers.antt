use Rattle.std.proofs.Common.{◌≡◌, ◌≢◌, ℕ, true, List, [], ◌∷◌, ◌++◌, Option, Some, None, codes, length}
use Rattle.std.proofs.Common.{get_or, refl, ap, arith, inl, inr}
use Rattle.std.specs.List.{list_all}
use Rattle.config_file.proofs.OneKey.{cut_same}
use Rattle.config_file.specs.Bytes.{is_comment_byte}
use Rattle.config_file.specs.Header.{Section}
use Rattle.config_file.specs.Value.{EndsValue}
use Rattle.config_file.specs.File as files
use Rattle.config_file.specs.Listing as listing
use Rattle.config_file.specs.Key.{Key, IsKey}
use Rattle.config_edit.specs.Cut as cut
use Rattle.config_edit.specs.Cut.{Part, IsTail, Cuts, HasComment, EachBecomes, part_bytes, parts_bytes}
use Rattle.config_edit.specs.Edit as edit
use Rattle.config_edit.specs.Edit.{Content, HasContents, IsOf, LosesOne, Without}
use Rattle.config_edit.specs.Unset as spec
use Rattle.config_edit.specs.Unset.{Goes, Leaves, LeavesEmptied, IsEmptied, IsBelowComment, KeepsNone}
use Rattle.config_edit.specs.Unset.{LosesOf, TakesOut, IsTakenOut}
use Rattle.config_edit.proofs.Literals.{at_comment, at_end, at_entry, at_top, comment_tail, end, feed_end}
use Rattle.config_edit.proofs.Literals.{feed_tail, reads, top, valued}
use Rattle.config_edit.proofs.Cuts.{no_line_comment}
use Rattle.config_edit.proofs.TakenOut.{keeps_more, loses_more, none_part, nothing_below, taken_out_once}
use Rattle.config_edit.proofs.Literals.{ak, ak_is}
use Rattle.config_edit.proofs.laws.unset_texts.Goals as goal

abbrev a : Option Section
a = Some (codes "a", None)

-- the parts of the texts
abbrev header : Part
header = top (codes "a")

abbrev comment : List ℕ → Part
comment bytes = cut.line ((35 ∷ bytes) ++ codes "\n") true

abbrev own : List ℕ → Part
own tail = valued [] (codes "k") [] (codes "1") tail

abbrev other : Part
other = valued [] (codes "j") [] (codes "0") (codes "\n")

at_header : {rest : List ℕ} {parts : List Part} → Cuts rest parts → Cuts (codes "[a]" ++ rest) (header ∷ parts)
at_header cuts = at_top (codes "a") (λ e. cc) refl cuts

at_own : {rest : List ℕ} {parts : List Part} (tail : List ℕ) → EndsValue (tail ++ rest)
    → IsTail tail rest true → Cuts rest parts
    → Cuts (codes "k=1" ++ (tail ++ rest)) (own tail ∷ parts)
at_own tail ends t cuts = at_entry [] 107 [] [] (codes "1") tail refl refl refl refl refl ends t cuts

at_other : {rest : List ℕ} {parts : List Part} → Cuts rest parts → Cuts (codes "j=0\n" ++ rest) (other ∷ parts)
at_other cuts = at_entry [] 106 [] [] (codes "0") (codes "\n") refl refl refl refl refl (inl refl)
    (feed_tail _) cuts

end_blank : ¬ (HasComment (codes "\n"))
end_blank = λ has. no_line_comment (feed_tail []) refl has

never_other : (before : Option Section) → IsOf ak (before, codes "j", Some (codes "0")) → ⊥
never_other before is = let never : ◌≡◌ {A = ℕ} 106 107 = ap (λ l. get_or l 0 0) is.1 in omega arith

not_below : IsBelowComment [] → ⊥
not_below below = nothing_below below refl

emptied : (tail : List ℕ) → TakesOut ak None (header ∷ end ∷ own tail ∷ []) []
emptied tail =
    let goes : Goes ak None (header ∷ end ∷ []) (own tail) = ((listing.plain, refl), tt) in
    let first : KeepsNone ak None (header ∷ []) (end ∷ []) =
    (keeps_more ak None (header ∷ []) [] end).0 (
      λ front back part e. absurd (none_part front back part e),
      inr end_blank,
    ) in
    let none : KeepsNone ak None (header ∷ []) (end ∷ own tail ∷ []) =
    (keeps_more ak None (header ∷ []) (end ∷ []) (own tail)).0 (first, inl goes) in
    let empty : IsEmptied ak None [] header (end ∷ own tail ∷ []) =
    ((end ∷ [], [], own tail, refl, goes), none, not_below) in
    let becomes : EachBecomes (LeavesEmptied ak None []) (header ∷ end ∷ own tail ∷ []) [] =
    cut.next {before = header ∷ end ∷ []} (own tail) []
    (cut.next {before = header ∷ []} end [] (cut.next {before = []} header [] cut.none refl) refl)
    (inl (goes, refl)) in
    spec.section {before = []} header (spec.front {parts = []} refl) refl refl (inl (empty, becomes))

below : (bytes : List ℕ) → list_all is_comment_byte bytes ≡ true
    → TakesOut ak None (comment bytes ∷ header ∷ end ∷ own (codes "\n") ∷ [])
    (parts_bytes (comment bytes ∷ []) ++ codes "[a]\n")
below bytes all =
    let front = comment bytes in
    let own = own (codes "\n") in
    let is_below : IsBelowComment (front ∷ []) =
    spec.comment [] front ([], bytes ++ codes "\n", 35, refl, refl, refl) in
    let goes : Goes ak None (front ∷ header ∷ end ∷ []) own = ((listing.plain, refl), tt) in
    let becomes : EachBecomes (λ before. Leaves ak None (front ∷ before)) (header ∷ end ∷ own ∷ []) (codes "[a]\n") =
    cut.next {before = header ∷ end ∷ []} own [] (cut.next {before = header ∷ []} end (codes "\n")
    (cut.next {before = []} header (codes "[a]") cut.none (inr (λ goes. goes.0, refl)))
    (inr (λ goes. goes.0, refl))) (inl (goes, refl)) in
    spec.section {before = front ∷ []} header (spec.front {parts = front ∷ []} refl) refl refl
    (inr (λ (loses, none, apart). apart is_below, becomes))

in_line : TakesOut ak None (header ∷ own (codes "\n") ∷ other ∷ []) (codes "[a]\nj=0\n")
in_line =
    let own = own (codes "\n") in
    let goes : Goes ak None (header ∷ []) own = ((listing.plain, refl), tt) in
    let stays : ¬ (Goes ak None (header ∷ own ∷ []) other) = λ goes. never_other a goes.0 in
    let full : ¬ (IsEmptied ak None [] header (own ∷ other ∷ [])) = λ (loses, none, apart).
    elim (none (own ∷ []) [] other refl) [
      | inl goes ↦ stays goes
      | inr blank ↦ blank
    ] in
    let becomes : EachBecomes (λ before. Leaves ak None before) (header ∷ own ∷ other ∷ []) (codes "[a]\nj=0\n") =
    cut.next {before = header ∷ own ∷ []} other (codes "j=0\n")
    (cut.next {before = header ∷ []} own (codes "\n")
    (cut.next {before = []} header (codes "[a]") cut.none (inr (λ goes. goes.0, refl)))
    (inl (goes, feed_end (codes "k=") 49 (omega arith)))) (inr (stays, refl)) in
    spec.section {before = []} header (spec.front {parts = []} refl) refl refl (inr (full, becomes))

no_own : LosesOf ak None (header ∷ []) (end ∷ []) → ⊥
no_own loses = elim ((loses_more ak None (header ∷ []) [] end).1 loses) [
  | inl (front, back, part, e, goes) ↦ none_part front back part e
  | inr goes ↦ goes.0
]

-- a section with no entry of the key, before one with another entry
kept : TakesOut ak None (header ∷ end ∷ header ∷ end ∷ other ∷ []) (codes "[a]\n[a]\nj=0\n")
kept =
    let stays : ¬ (Goes ak None (header ∷ end ∷ header ∷ end ∷ []) other) = λ goes. never_other a goes.0 in
    let full : ¬ (IsEmptied ak None [] header (end ∷ [])) = λ (loses, none, apart). no_own loses in
    let more : ¬ (IsEmptied ak None (header ∷ end ∷ []) header (end ∷ other ∷ [])) = λ (loses, none, apart).
    elim (none (end ∷ []) [] other refl) [
      | inl goes ↦ stays goes
      | inr blank ↦ blank
    ] in
    let first : EachBecomes (λ before. Leaves ak None before) (header ∷ end ∷ []) (codes "[a]\n") =
    cut.next {before = header ∷ []} end (codes "\n")
    (cut.next {before = []} header (codes "[a]") cut.none (inr (λ goes. goes.0, refl)))
    (inr (λ goes. goes.0, refl)) in
    let second : EachBecomes (λ before. Leaves ak None (header ∷ end ∷ before)) (header ∷ end ∷ other ∷ []) (codes "[a]\nj=0\n") =
    cut.next {before = header ∷ end ∷ []} other (codes "j=0\n")
    (cut.next {before = header ∷ []} end (codes "\n")
    (cut.next {before = []} header (codes "[a]") cut.none (inr (λ goes. goes.0, refl)))
    (inr (λ goes. goes.0, refl))) (inr (stays, refl)) in
    spec.section {before = header ∷ end ∷ []} header
    (spec.section {before = []} header (spec.front {parts = []} refl) refl refl (inr (full, first))) refl refl
    (inr (more, second))

-- ---- what is made of a text, and that nothing else is

abbrev own_content : Content
own_content = (a, codes "k", Some (codes "1"))

own_of : IsOf ak own_content
own_of = (listing.plain, refl)

without_own : Without ak None (own_content ∷ []) []
without_own = edit.lost own_content edit.none own_of tt

out_of : {old new : List ℕ} {parts : List Part} → files.after_mark old ≡ None → Cuts old parts
    → TakesOut ak None parts new
    → IsTakenOut ak None old new
out_of {old = old} {new = new} {parts = parts} unmarked cuts takes =
    ([], parts, new, (old, cut.unmarked unmarked, cuts), takes, refl)

one : {old new : List ℕ} → HasContents old (own_content ∷ []) → HasContents new [] → IsTakenOut ak None old new
    → spec.Unsets (codes "a.k") old new
one has now out = (
  ak,
  ak_is,
  own_content ∷ [],
  has,
  (
    [],
    now,
    record {
      before = [];
      x = own_content;
      after = [];
      old_is = refl;
      is_of = own_of;
      none_before = edit.none;
      none_after = edit.none;
      new_is = refl;
    },
    out,
  ),
)

each : {old new : List ℕ} {contents now : List Content} → HasContents old contents → HasContents new now
    → Without ak None contents now → IsTakenOut ak None old new → spec.UnsetsAll (codes "a.k") old new
each {contents = contents} {now = now} has also without out =
    (ak, ak_is, contents, has, (now, also, without, out))

only_one : {old right wrong : List ℕ} → IsTakenOut ak None old right → spec.Unsets (codes "a.k") old wrong
    → wrong ≡ right
only_one out (key, is, contents, has, (now, also, loses, other)) =
    taken_out_once (cut_same is.cut ak_is.cut) other out

only_each : {old right wrong : List ℕ} → IsTakenOut ak None old right → spec.UnsetsAll (codes "a.k") old wrong
    → wrong ≡ right
only_each out (key, is, contents, has, (now, also, without, other)) =
    taken_out_once (cut_same is.cut ak_is.cut) other out

alone_out : (tail : List ℕ) → EndsValue (tail ++ []) → IsTail tail [] true
    → IsTakenOut ak None (codes "[a]\n" ++ (codes "k=1" ++ (tail ++ []))) []
alone_out tail ends t = out_of refl (at_header (at_end (at_own tail ends t cut.ends))) (emptied tail)

plain_out : IsTakenOut ak None (codes "[a]\nk=1\n") []
plain_out = alone_out (codes "\n") (inl refl) (feed_tail [])

commented_out : IsTakenOut ak None (codes "[a]\nk=1# me\n") []
commented_out = alone_out (codes "# me\n") (inr refl) (comment_tail 35 (codes " me") [] refl refl)

below_out : (bytes : List ℕ) → list_all is_comment_byte bytes ≡ true
    → files.after_mark (part_bytes (comment bytes) ++ codes "[a]\nk=1\n") ≡ None
    → IsTakenOut ak None (part_bytes (comment bytes) ++ codes "[a]\nk=1\n")
    (parts_bytes (comment bytes ∷ []) ++ codes "[a]\n")
below_out bytes all unmarked =
    let cuts = at_comment [] 35 bytes refl refl all
    (at_header (at_end (at_own (codes "\n") (inl refl) (feed_tail []) cut.ends))) in
    out_of unmarked cuts (below bytes all)

pub returns-clause-emptied : goal.returns-clause-emptied
returns-clause-emptied c =
    one (reads (codes "[a]\nk=1\n") refl refl) (reads [] refl refl) plain_out

pub returns-clause-commented : goal.returns-clause-commented
returns-clause-commented c =
    one (reads (codes "[a]\nk=1# me\n") refl refl) (reads [] refl refl) commented_out

pub returns-clause-below : goal.returns-clause-below
returns-clause-below c =
    one (reads (codes "#[a]\n[a]\nk=1\n") refl refl) (reads (codes "#[a]\n[a]\n") refl refl)
    (below_out (codes "[a]") refl refl)

pub returns-clause-all_commented : goal.returns-clause-all_commented
returns-clause-all_commented c =
    each (reads (codes "[a]\nk=1# me\n") refl refl) (reads [] refl refl) without_own commented_out

pub returns-clause-all_below : goal.returns-clause-all_below
returns-clause-all_below c =
    each (reads (codes "#k=0\n[a]\nk=1\n") refl refl) (reads (codes "#k=0\n[a]\n") refl refl) without_own
    (below_out (codes "k=0") refl refl)

pub returns-clause-in_line : goal.returns-clause-in_line
returns-clause-in_line c =
    let old = codes "[a]k=1\nj=0\n" in
    let cuts = at_header (at_own (codes "\n") (inl refl) (feed_tail _) (at_other cut.ends)) in
    let without : Without ak None (own_content ∷ (a, codes "j", Some (codes "0")) ∷ []) ((a, codes "j", Some (codes "0")) ∷ []) =
    edit.kept (a, codes "j", Some (codes "0")) without_own (λ of. never_other a of.0) in
    each (reads old refl refl) (reads (codes "[a]\nj=0\n") refl refl) without
    (out_of {old = old} refl cuts in_line)

pub returns-clause-no_blank_line : goal.returns-clause-no_blank_line
returns-clause-no_blank_line c = λ unsets. let e = ap (λ t. length t) (only_each plain_out unsets) in
    omega arith

pub returns-clause-no_comment : goal.returns-clause-no_comment
returns-clause-no_comment c = λ unsets. let e = ap (λ t. length t) (only_each commented_out unsets) in
    omega arith

pub returns-clause-no_setting_lost : goal.returns-clause-no_setting_lost
returns-clause-no_setting_lost c = λ unsets.
    let e = ap (λ t. length t) (only_each (below_out (codes "k=0") refl refl) unsets) in omega arith

pub returns-clause-no_header_lost : goal.returns-clause-no_header_lost
returns-clause-no_header_lost c = λ unsets.
    let e = ap (λ t. length t) (only_one (below_out (codes "[a]") refl refl) unsets) in omega arith

pub returns-clause-no_other_header : goal.returns-clause-no_other_header
returns-clause-no_other_header c = λ unsets.
    let cuts = at_header (at_end (at_header (at_end (at_other cut.ends)))) in
    let out = out_of {old = codes "[a]\n[a]\nj=0\n"} refl cuts kept in
    let e = ap (λ t. length t) (only_each out unsets) in omega arith
