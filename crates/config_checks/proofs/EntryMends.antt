-- What mends the setting that is made of an entry mends the setting that the file has there.
use Rattle.std.proofs.Common.{◌≡◌, ℕ, zero, suc, Bool, List, [], ◌∷◌, map, Option, None, Some, option_map}
use Rattle.std.proofs.Common.{refl, sym, ap, ◌∙◌, if◌then◌else◌}
use Rattle.std.proofs.lemmas.Option.{slice_get-map, none-some}
use Rattle.std.specs.List.{slice_get, AllZip}
use Rattle.config_file.specs.declared.entry.Entry as code
use Rattle.config_file.specs.Views.{entry_of}
use Rattle.config_file.proofs.EachListed.{IsRead, entries_are_read}
use Rattle.config_file.proofs.ListsA.{all_by_recursion}
use Rattle.config_checks.specs.declared.fix.Fix.{Fix}
use Rattle.config_checks.specs.declared.fix.Safety.{Safety}
use Rattle.config_checks.specs.declared.fix.Safety.TheVariants.{Unsafe}
use Rattle.config_checks.specs.declared.mending.FileEntries.{FileEntries}
use Rattle.config_checks.specs.declared.mending.Mend.{Mend}
use Rattle.config_checks.specs.declared.mending.Proposal.{Proposal}
use Rattle.config_checks.specs.declared.options.Options.{Options}
use Rattle.config_checks.specs.declared.row.Row.{Row}
use Rattle.config_checks.specs.declared.setting.Setting.{Setting}
use Rattle.config_checks.specs.Findings.{finding_of}
use Rattle.config_checks.specs.Fixes.{HasSafety, Mends}
use Rattle.config_checks.specs.Mending.{IsWanted, IsMend}
use Rattle.config_checks.specs.Reading.Steps.{AreSettings}
use Rattle.config_checks.specs.Settings.{IsSettingOf, value_of}
use Rattle.config_checks.proofs.MendLemmas.{get_zipped, get_one, same_entry, own_mends, is_one, unwanted}
use Rattle.config_checks.proofs.RenamedLemmas.{same_value}
use Rattle.config_checks.proofs.SameSettings.{same_mends, same_safety}

none_past : {A B : Type 0} (R : A → B → Type 0) (xs : List A) (ys : List B) (i : ℕ) → AllZip R xs ys
    → slice_get xs i ≡ None → slice_get ys i ≡ None
none_past R [] [] i all e = refl
none_past R (x ∷ xs) (y ∷ ys) zero all e = absurd (cc)
none_past R (x ∷ xs) (y ∷ ys) (suc i) all e = none_past R xs ys i all.1 e
none_past R xs ys i all e = absurd all

module _ (read : FileEntries) (settings : List Setting) (are : AreSettings read settings) (i : ℕ) where
  viewed : (o : Option code.Entry) → slice_get read.entries.items i ≡ o
      → slice_get (map entry_of read.entries.items) i ≡ option_map entry_of o
  viewed o is = slice_get-map entry_of read.entries.items i ∙ ap (option_map entry_of) is

  none_there : slice_get read.entries.items i ≡ None → slice_get settings i ≡ None
  none_there none =
      none_past (IsSettingOf read.file.now) (map entry_of read.entries.items) settings i are.2 (viewed None none)

  module _ (entry : code.Entry) (stands : slice_get read.entries.items i ≡ Some entry) (made : Setting)
      (is : IsSettingOf read.file.now (entry_of entry) made) where
    -- the file has a setting there, with the key and the value of the one that is made
    there : (s : Setting) × (slice_get settings i ≡ Some s) × (made.key.items ≡ s.key.items)
        × (value_of made ≡ value_of s)
    there =
        let (text, is_file, all) = are in
        let entries = map entry_of read.entries.items in
        let here : slice_get entries i ≡ Some (entry_of entry) = viewed (Some entry) stands in
        let (s, stood, was) = get_zipped (IsSettingOf read.file.now) entries settings i (entry_of entry) all here in
        let own = get_one IsRead entries i (entry_of entry)
        (all_by_recursion IsRead entries (entries_are_read is_file)) here in
        let (listed, lists) = own.listed in (
          s,
          stood,
          is.key listed lists ∙ sym (was.key listed lists),
          same_value (entry_of entry).value (value_of made) (value_of s) own.spelled is.value was.value,
        )

  module _ (rows : List Row) (options : Options) (guesses : Bool) (proposal : Proposal)
      (about : proposal.finding.entry ≡ Some i) where
    abbrev IsOne : Mend → Type 0
    IsOne mend = IsMend rows options guesses settings proposal mend

    pub no_entry : slice_get read.entries.items i ≡ None → (mend : Mend) → ¬ (IsOne mend)
    no_entry none mend is =
        let stands : slice_get settings i ≡ Some is.setting =
        rw (same_entry rows options guesses settings proposal i about mend is) at is.stands in
        none-some is.setting (sym (none_there none) ∙ stands)

    module _ (entry : code.Entry) (stands : slice_get read.entries.items i ≡ Some entry) (made : Setting)
        (is : IsSettingOf read.file.now (entry_of entry) made) where
      pub nothing_mends : ((fix : Fix) → ¬ (Mends rows options made (finding_of proposal.finding) fix))
          → (mend : Mend) → ¬ (IsOne mend)
      nothing_mends none mend one =
          let (s, stood, keys, values) = there entry stands made is in
          let f = finding_of proposal.finding in
          none mend.fix (same_mends rows options made s (sym keys) (sym values) f f refl refl refl mend.fix
          (own_mends rows options guesses settings proposal i about s stood mend one))

      module _ (fix : Fix) (own safety : Safety)
          (mends : Mends rows options made (finding_of proposal.finding) fix)
          (has : HasSafety made proposal.finding.code fix own)
          (told : safety ≡ (if proposal.is_guess then Unsafe else own)) where
        pub made_one : IsWanted guesses safety → IsOne (record { entry = i; fix = fix; safety = safety })
        made_one wanted =
            let (s, stood, keys, values) = there entry stands made is in
            let f = finding_of proposal.finding in
            is_one rows options guesses settings proposal i about s stood fix own safety
            (same_mends rows options s made keys values f f refl refl refl fix mends)
            (same_safety s made keys values proposal.finding.code fix own has) told wanted

        pub made_none : ¬ (IsWanted guesses safety) → (mend : Mend) → ¬ (IsOne mend)
        made_none never =
            let (s, stood, keys, values) = there entry stands made is in
            let f = finding_of proposal.finding in
            unwanted rows options guesses settings proposal i about s stood fix own safety
            (same_mends rows options s made keys values f f refl refl refl fix mends)
            (same_safety s made keys values proposal.finding.code fix own has) told never
