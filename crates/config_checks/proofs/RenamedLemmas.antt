-- What is found for an entry whose key or value changes.
use Rattle.std.proofs.Common.{◌≡◌, ℕ, true, List, [], ◌∷◌, ◌++◌, map, Option, None, Some}
use Rattle.std.proofs.Common.{refl, sym, ap, subst, ◌∙◌, inl, inr, append_assoc}
use Rattle.std.specs.Char.{to_ascii_lowercase}
use Rattle.std.specs.List.{list_all}
use Rattle.config_text.specs.SameWord.{SameWord}
use Rattle.config_file.specs.File.{Entry}
use Rattle.config_file.specs.Header.{Section}
use Rattle.config_file.specs.Key.{Key, key, written, dotted, IsCut, is_no_dot}
use Rattle.config_file.specs.KeyView.{key_of}
use Rattle.config_file.specs.Listing.{IsListed, alone, in_section}
use Rattle.config_file.specs.Settings.{IsValueOf}
use Rattle.config_file.proofs.EachListed.{IsRead, IsSpelled}
use Rattle.config_file.proofs.Keys.{listed_as}
use Rattle.config_file.proofs.OneKey.{cut_same, cut_has_dot, last_same, key_bytes_no_dot}
use Rattle.config_file.proofs.OneKey.{lower_no_dots, lower_twice}
use Rattle.config_checks.specs.declared.options.Options.{Options}
use Rattle.config_checks.specs.declared.row.Row.{Row}
use Rattle.config_checks.specs.declared.setting.Setting.{Setting}
use Rattle.config_checks.specs.Fixes.{IsClean, IsRenamed}
use Rattle.config_checks.specs.Keys.{Covers, CoversName}
use Rattle.config_checks.specs.Rows.{Decides}
use Rattle.config_checks.specs.Settings.{IsSettingOf, value_of}

-- ---- keys that differ only in case

record AreSameKey (a b : Key) : Type 0 where
  pub section : SameWord a.section b.section
  pub subsection : a.subsection ≡ b.subsection
  pub name : SameWord a.name b.name

covers_name : (row a b : List ℕ) → SameWord a b → CoversName row a → CoversName row b
covers_name row a b same (inl any) = inl any
covers_name row a b same (inr is) = inr (is ∙ same)

covers_same : (row a b : Key) → AreSameKey a b → Covers row a → Covers row b
covers_same row a b same c = record {
  section = c.section ∙ same.section;
  subsection = rw same.subsection at c.subsection;
  name = covers_name row.name a.name b.name same.name c.name;
}

other_way : (a b : Key) → AreSameKey a b → AreSameKey b a
other_way a b same = record { section = sym same.section; subsection = sym same.subsection; name = sym same.name }

decides_same : (rows : List Row) (t u : List ℕ) (a b : Key) (row : Row) → IsCut t a → IsCut u b → AreSameKey a b
    → Decides rows t row → Decides rows u row
decides_same rows t u a b row first second same decides =
    let covering = rw (cut_same decides.cut first) at decides.covering in
    record {
      key = b;
      cut = second;
      covering = record {
        place = covering.place;
        inside = covering.inside;
        stands = covering.stands;
        covers = covers_same (key_of row.key) a b same covering.covers;
        first = λ k d within also. covering.first k d within (covers_same _ b a (other_way a b same) also);
      };
    }

-- ---- the key of an entry whose last part changes

abbrev renamed_key : Key → List ℕ → Key
renamed_key from name = key from.section from.subsection (map to_ascii_lowercase name)

renamed_listed : {section : Option Section} {last listed : List ℕ} (from : Key) (name : List ℕ)
    → list_all is_no_dot last ≡ true → IsListed section last listed → IsCut listed from
    → IsListed section name (written (renamed_key from name))
renamed_listed from name none (alone {key = last}) cut = absurd (cut_has_dot cut (lower_no_dots last none))
renamed_listed from name none (in_section {section = section} {key = last} {listed = front} h) cut =
    let (left, spells, is) = listed_as h in
    let mine = map to_ascii_lowercase section.0 ++ dotted left in
    let own = map to_ascii_lowercase last in
    let moved : (n : List ℕ) → mine ++ 46 ∷ n ≡ front ++ n =
    λ n. sym (append_assoc mine (46 ∷ []) n) ∙ ap (λ t. t ++ n) (sym is) in
    let (fronts, names) = last_same mine (from.section ++ dotted from.subsection) own from.name (lower_no_dots last none) cut.name
    (moved own ∙ cut.joined) in
    let whole : front ++ map to_ascii_lowercase name ≡ written (renamed_key from name) =
    sym (moved (map to_ascii_lowercase name)) ∙ ap (λ t. t ++ 46 ∷ map to_ascii_lowercase name) fronts in
    subst (λ l. IsListed (Some section) name l) whole (in_section h)

-- ---- one entry

pub same_value : (v a b : Option (List ℕ)) → IsSpelled v → IsValueOf v a → IsValueOf v b → a ≡ b
same_value None a b spelled p q = p ∙ sym q
same_value (Some raw) a b spelled p q =
    let (text, ending, spells) = spelled raw refl in p text ending spells ∙ sym (q text ending spells)

module _ (rows : List Row) (options : Options) (file : List ℕ) (e e' : Entry) (s s' : Setting) (read : IsRead e)
    (is : IsSettingOf file e s) (now : IsSettingOf file e' s') (same : e'.section ≡ e.section) where
  pub same_key : e'.key ≡ e.key → s'.key.items ≡ s.key.items
  same_key last =
      let (listed, lists) = read.listed in now.key listed (rw (same, last) lists) ∙ sym (is.key listed lists)

  pub clean_value : (new : List ℕ) → e'.key ≡ e.key → value_of s' ≡ Some new
      → IsClean rows options s.key.items (Some new)
      → IsClean rows options s'.key.items (value_of s')
  clean_value new last has clean = rw (same_key last, has) clean

  pub clean_name : (key name : List ℕ) → e'.key ≡ name → e'.value ≡ e.value → IsRenamed s.key.items key name
      → IsClean rows options key (value_of s) → IsClean rows options s'.key.items (value_of s')
  clean_name key name last value renamed clean =
      let (listed, lists) = read.listed in
      let cut = rw (is.key listed lists) at renamed.is in
      let from = renamed.from in
      let to = renamed.to in
      let given : list_all is_no_dot name ≡ true = rw renamed.last at renamed.becomes.name in
      let key_now : s'.key.items ≡ written (renamed_key from name) =
      now.key _ (rw (same, last) (renamed_listed from name (key_bytes_no_dot e.key read.key_bytes) lists cut)) in
      let cut_now : IsCut (written (renamed_key from name)) (renamed_key from name) =
      record { joined = refl; section = cut.section; name = lower_no_dots name given } in
      let alike : AreSameKey to (renamed_key from name) = record {
        section = sym renamed.section;
        subsection = sym renamed.subsection;
        name = ap (map to_ascii_lowercase) renamed.last ∙ sym (lower_twice name);
      } in
      let values : value_of s' ≡ value_of s =
      same_value e.value (value_of s') (value_of s) read.spelled (rw value at now.value) is.value in
      let clean_now : IsClean rows options (written (renamed_key from name)) (value_of s) = record {
        row = clean.row;
        decides = decides_same rows key _ to _ clean.row renamed.becomes cut_now alike clean.decides;
        clean = clean.clean;
      } in
      rw (key_now, values) clean_now
