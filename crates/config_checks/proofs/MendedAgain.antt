-- What is mended stays mended.
use Rattle.std.proofs.Common.{◌≡◌, ◌≢◌, ℕ, zero, suc, Bool, List, [], ◌∷◌, ◌++◌, map, length, None, Some}
use Rattle.std.proofs.Common.{option_map}
use Rattle.std.proofs.Common.{refl, sym, ap, subst, ◌∙◌, inl, inr, arith, append_assoc, append-nil}
use Rattle.std.proofs.lemmas.Option.{slice_get-map}
use Rattle.std.specs.List.{slice_get, AllByRecursion, AllZip}
use Rattle.config_file.specs.File.{Entry}
use Rattle.config_file.proofs.AddedEntries.{mark_is}
use Rattle.config_file.proofs.EachListed.{IsRead, entries_are_read}
use Rattle.config_file.proofs.ListsA.{all_by_recursion, all_appended}
use Rattle.config_file.proofs.OneReading.{one_reading}
use Rattle.config_edit.specs.declared.Change.{Change}
use Rattle.config_edit.specs.Cut.{part_bytes, parts_bytes, Part, Cuts, IsSplit, EachBecomes, BecomesParts}
use Rattle.config_edit.specs.Cut as cut
use Rattle.config_edit.specs.Edit.{Content, content, ChangesEach, ChangesPart}
use Rattle.config_edit.specs.Edit as edit
use Rattle.config_checks.specs.declared.fix.Fix.{Fix}
use Rattle.config_checks.specs.declared.fix.Safety.{Safety}
use Rattle.config_checks.specs.declared.fix.Safety.TheVariants.{Safe, Unsafe}
use Rattle.config_checks.specs.declared.mending.Mend.{Mend}
use Rattle.config_checks.specs.declared.mending.Proposal.{Proposal}
use Rattle.config_checks.specs.declared.options.Options.{Options}
use Rattle.config_checks.specs.declared.row.Row.{Row}
use Rattle.config_checks.specs.declared.setting.Setting.{Setting}
use Rattle.config_checks.specs.Findings.{finding_of}
use Rattle.config_checks.specs.Mending.{change_of, IsAsSafe, IsMend, HasMends, IsLeftOver, IsMended}
use Rattle.config_checks.specs.Mending as mending
use Rattle.config_checks.specs.Settings.{IsSettingOf, value_of}
use Rattle.config_checks.proofs.MendLemmas.{get_mapped, get_zipped, get_one, all_weaker, as_many}
use Rattle.config_checks.proofs.RenamedLemmas.{same_key, same_value}
use Rattle.config_checks.proofs.SameSettings.{same_mends, is_safe}

-- ---- no change

nothing_in : {A : Type 0} (before after : List A) (x : A) → [] ≡ before ++ x ∷ after → ⊥
nothing_in [] after x e = absurd (cc)
nothing_in (y ∷ before) after x e = absurd (cc)

bytes_join : (a b : List Part) → parts_bytes (a ++ b) ≡ parts_bytes a ++ parts_bytes b
bytes_join [] b = refl
bytes_join (part ∷ a) b =
    ap (λ t. part_bytes part ++ t) (bytes_join a b)
    ∙ sym (append_assoc (part_bytes part) (parts_bytes a) (parts_bytes b))

stays : {parts : List Part} {bytes : List ℕ} → EachBecomes (ChangesPart []) parts bytes → bytes ≡ parts_bytes parts
stays cut.none = refl
stays (cut.next part put each (edit.changed change (front, back, is) place becomes)) =
    absurd (nothing_in front back change is)
stays (cut.next {before = before} part put each (edit.stays none)) =
    ap (λ t. t ++ part_bytes part) (stays each) ∙ sym (bytes_join before (part ∷ [])
    ∙ ap (λ t. parts_bytes before ++ t) (append-nil (part_bytes part)))

whole : {text : List ℕ} {parts : List Part} → Cuts text parts → text ≡ parts_bytes parts
whole cut.ends = refl
whole (cut.begins part is more) = ap (λ t. part_bytes part ++ t) (whole more)

with_mark : {text mark body : List ℕ} → IsSplit text mark body → text ≡ mark ++ body
with_mark (cut.unmarked none) = refl
with_mark (cut.marked {text = text} {body = body} is) = mark_is text body is

same_text : (old new : List ℕ) → BecomesParts (ChangesPart []) old new → new ≡ old
same_text old new (mark, parts, bytes, (body, split, cuts), each, is) =
    is ∙ ap (λ t. mark ++ t) (stays each ∙ sym (whole cuts)) ∙ sym (with_mark split)

-- ---- lists

all_front : {A : Type 0} (P : A → Type 0) (xs ys : List A) → AllByRecursion P (xs ++ ys) → AllByRecursion P xs
all_front P [] ys all = tt
all_front P (x ∷ xs) ys all = (all.0, all_front P xs ys all.1)

all_back : {A : Type 0} (P : A → Type 0) (xs ys : List A) → AllByRecursion P (xs ++ ys) → AllByRecursion P ys
all_back P [] ys all = all
all_back P (x ∷ xs) ys all = all_back P xs ys all.1

get_back : {A B : Type 0} (R : A → B → Type 0) (xs : List A) (ys : List B) (i : ℕ) (y : B) → AllZip R xs ys
    → slice_get ys i ≡ Some y → (x : A) × (slice_get xs i ≡ Some x) × R x y
get_back R [] [] i y all e = absurd (cc)
get_back R (x ∷ xs) (w ∷ ys) zero y all e = let same : w ≡ y = cc in (x, refl, subst (λ w. R x w) same all.0)
get_back R (x ∷ xs) (w ∷ ys) (suc i) y all e = get_back R xs ys i y all.1 e
get_back R xs ys i y all e = absurd all

both_ends : {A : Type 0} (old new : List A) (x y : A) (i : ℕ) → length old ≡ length new
    → slice_get new i ≡ slice_get old i
    → (i ≡ length old → y ≡ x) → slice_get (new ++ y ∷ []) i ≡ slice_get (old ++ x ∷ []) i
both_ends [] [] x y zero long same last = ap Some (last refl)
both_ends [] [] x y (suc i) long same last = refl
both_ends (a ∷ old) (b ∷ new) x y zero long same last = same
both_ends (a ∷ old) (b ∷ new) x y (suc i) long same last =
    both_ends old new x y i (omega (arith, long)) same (λ e. last (ap suc e))
both_ends [] (b ∷ new) x y i long same last = absurd (omega (arith, long))
both_ends (a ∷ old) [] x y i long same last = absurd (omega (arith, long))

-- an entry that no change names is as it was
kept_at : {changes : List Change} {old new : List Content} → ChangesEach changes old new → (i : ℕ)
    → AllByRecursion (λ change. change.entry ≢ i) changes → slice_get new i ≡ slice_get old i
kept_at edit.none i others = refl
kept_at (edit.kept x {old = old} {new = new} each) i others =
    both_ends old new x x i (as_many each) (kept_at each i others) (λ e. refl)
kept_at (edit.changed change x y {changes = changes} {old = old} {new = new} each place is) i others =
    both_ends old new x y i (as_many each)
    (kept_at each i (all_front (λ change. change.entry ≢ i) changes (change ∷ []) others))
    (λ e. absurd ((all_back (λ change. change.entry ≢ i) changes (change ∷ []) others).0 (place ∙ sym e)))

-- ---- safety of the same change of the same setting

as_safe_too : (s s' : Setting) (keys : s'.key.items ≡ s.key.items) (values : value_of s' ≡ value_of s)
    (p p' : Proposal)
    → p'.finding.code ≡ p.finding.code → p'.is_guess ≡ p.is_guess → (fix : Fix) (safety : Safety)
    → IsAsSafe p' s' fix safety
    → IsAsSafe p s fix safety
as_safe_too s s' keys values p p' codes guess fix Safe (sure, safe) =
    (sym guess ∙ sure, is_safe s s' keys values p.finding.code p'.finding.code codes fix safe)
as_safe_too s s' keys values p p' codes guess fix Unsafe (inl is) = inl (sym guess ∙ is)
as_safe_too s s' keys values p p' codes guess fix Unsafe (inr never) =
    inr (λ safe. never (is_safe s' s (sym keys) (sym values) p'.finding.code p.finding.code (sym codes) fix safe))

-- ---- nothing more is mended

module _ (rows : List Row) (options : Options) (guesses : Bool) (settings : List Setting) where
  -- what can be mended is mended
  abbrev IsDone : List Mend → Proposal → Type 0
  IsDone mends proposal = (mend : Mend) → IsMend rows options guesses settings proposal mend
      → ¬ (AllByRecursion (λ other. other.entry ≢ mend.entry) mends)

  all_done : {proposals : List Proposal} {mends : List Mend}
      → HasMends rows options guesses settings proposals mends
      → AllByRecursion (IsDone mends) proposals
  all_done mending.none = tt
  all_done (mending.mended proposal m {proposals = proposals} {mends = mends} have is) =
      let one : IsDone (mends ++ m ∷ []) proposal = λ mend also none.
      let both : Some m.entry ≡ Some mend.entry = sym is.entry ∙ also.entry in
      let same : m.entry ≡ mend.entry = cc in
      (all_back (λ other. other.entry ≢ mend.entry) mends (m ∷ []) none).0 same in
      all_appended (IsDone (mends ++ m ∷ [])) proposals (proposal ∷ [])
      (all_weaker (IsDone mends) (IsDone (mends ++ m ∷ []))
      (λ p done mend also none. done mend also (all_front (λ other. other.entry ≢ mend.entry) mends (m ∷ []) none))
      proposals (all_done have)) (one, tt)
  all_done (mending.left proposal {proposals = proposals} {mends = mends} have never) =
      let one : IsDone mends proposal = λ mend also none. never mend also in
      all_appended (IsDone mends) proposals (proposal ∷ []) (all_done have) (one, tt)

  none_more : {again : List Proposal} {more : List Mend} → HasMends rows options guesses settings again more
      → AllByRecursion (λ p. (mend : Mend) → ¬ (IsMend rows options guesses settings p mend)) again → more ≡ []
  none_more mending.none left = refl
  none_more (mending.mended proposal m {proposals = proposals} have is) left =
      absurd ((all_back (λ p. (mend : Mend)
      → ¬ (IsMend rows options guesses settings p mend)) proposals (proposal ∷ []) left).0 m is)
  none_more (mending.left proposal {proposals = proposals} have none) left =
      none_more have (all_front (λ p. (mend : Mend)
      → ¬ (IsMend rows options guesses settings p mend)) proposals (proposal ∷ []) left)

  module _ (file : List ℕ) (entries entries' : List Entry) (settings' : List Setting)
      (read : AllByRecursion IsRead entries)
      (were : AllZip (IsSettingOf file) entries settings) (are : AllZip (IsSettingOf file) entries' settings')
      (proposals : List Proposal) (mends : List Mend)
      (have : HasMends rows options guesses settings proposals mends)
      (each : ChangesEach (map change_of mends) (map content entries) (map content entries')) where
    mapped : (i : ℕ) (ms : List Mend) → AllByRecursion (λ m. m.entry ≢ i) ms
        → AllByRecursion (λ change. change.entry ≢ i) (map change_of ms)
    mapped i [] all = tt
    mapped i (m ∷ ms) all = (all.0, mapped i ms all.1)

    same_setting : (i : ℕ) (s' : Setting) → slice_get settings' i ≡ Some s'
        → AllByRecursion (λ m. m.entry ≢ i) mends
        → (s : Setting) × (slice_get settings i ≡ Some s) × (s'.key.items ≡ s.key.items)
        × (value_of s' ≡ value_of s)
    same_setting i s' stands others =
        let (e', there, becomes) = get_back (IsSettingOf file) entries' settings' i s' are stands in
        let now : slice_get (map content entries') i ≡ Some (content e') =
        slice_get-map content entries' i ∙ ap (option_map content) there in
        let (e, here, same) = get_mapped content entries i (content e') (sym (kept_at each i (mapped i mends others)) ∙ now) in
        let (s, stood, was) = get_zipped (IsSettingOf file) entries settings i e were here in
        let own = get_one IsRead entries i e read here in
        let values : e'.value ≡ e.value = ap (λ c. c.2) (sym same) in (
          s,
          stood,
          same_key rows options file e e' s s' own was becomes (ap (λ c. c.0) (sym same))
              (ap (λ c. c.1) (sym same)),
          same_value e.value (value_of s') (value_of s) own.spelled (rw values at becomes.value) was.value,
        )

    left_over : (p : Proposal) → IsLeftOver proposals mends p → (mend : Mend)
        → ¬ (IsMend rows options guesses settings' p mend)
    left_over p left mend is =
        let others : AllByRecursion (λ m. m.entry ≢ mend.entry) mends =
        all_weaker (λ m. p.finding.entry ≢ Some m.entry) (λ m. m.entry ≢ mend.entry)
        (λ m no e. no (is.entry ∙ ap Some (sym e))) mends left.other in
        let (s, stands, keys, values) = same_setting mend.entry is.setting is.stands others in
        let before = left.before in
        let codes : p.finding.code ≡ before.finding.code = ap (λ x. x.1) left.same in
        let own : IsMend rows options guesses settings before mend = record {
          entry = sym (ap (λ x. x.0) left.same) ∙ is.entry;
          setting = s;
          stands = stands;
          mends = same_mends rows options s is.setting keys values (finding_of before.finding)
              (finding_of p.finding) codes
              (ap (λ x. x.2) left.same) (ap (λ x. x.3) left.same) mend.fix is.mends;
          safety = as_safe_too s is.setting keys values before p codes
              (ap (λ x. x.4) left.same) mend.fix mend.safety is.safety;
          wanted = is.wanted;
        } in
        get_one (IsDone mends) proposals left.place before (all_done have) left.was mend own others

pub mended_again : (rows : List Row) (options : Options) (guesses : Bool) (file text new newer : List ℕ)
    (proposals again : List Proposal)
    (mends more : List Mend) → IsMended rows options guesses file text proposals mends new
    → IsMended rows options guesses file new again more newer → AllByRecursion (IsLeftOver proposals mends) again
    → (more ≡ []) × (newer ≡ new)
mended_again rows options guesses file text new newer proposals again mends more first second left =
    let (entries, is_file, were) = first.of_file in
    let (entries', is_new, are) = second.of_file in
    let (contents, (old, old_file, old_is), ordered, after, (later, new_file, new_is), each, bytes) = first.made in
    let same = (one_reading text entries old None None is_file old_file).0 in
    let also = (one_reading new entries' later None None is_new new_file).0 in
    let each' : ChangesEach (map change_of mends) (map content entries) (map content entries') =
    rw (same, also, old_is, new_is) each in
    let none : more ≡ [] =
    none_more rows options guesses second.settings second.have
    (all_weaker (IsLeftOver proposals mends) (λ p. (mend : Mend)
    → ¬ (IsMend rows options guesses second.settings p mend))
    (left_over rows options guesses first.settings file entries entries' second.settings
    (all_by_recursion IsRead entries
    (entries_are_read is_file)) were are proposals mends first.have each') again left) in
    let (contents', has', ordered', after', newest', each'', becomes) = second.made in
    (none, same_text new newer (rw none at becomes))
