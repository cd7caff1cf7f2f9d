-- The headline of configuration files has one answer, unless memory is refused.
use denote.Ref.{Bor}
use Rattle.std.proofs.Common.{◌≡◌, ◌++◌, ◌∷◌, [], ℕ, List, Bool, true, false, Option, None, Some, map, refl, sym, ap}
use Rattle.std.proofs.Common.{◌∙◌, subst, append-nil}
use Rattle.std.specs.Prelude.{Result, Ok, Err}
use Rattle.std.proofs.lemmas.Option.{same_Some, none-some}
use Rattle.std.proofs.lemmas.List.Elements.{All-head, All-tail}
use Rattle.config_text.specs.declared.errors.Fault.{Fault}
use Rattle.config_file.specs.File.{Entry}
use Rattle.config_file.specs.Key.{Key, HasKey, IsKey, RefusesKey}
use Rattle.config_file.specs.Settings.{HasOneReading, IsSameEnd, TellsStop, found_item}
use Rattle.config_file.specs.Value.{SpellsValue}
use Rattle.config_file.specs.Walk.{Content, Item, Stop, WalksText, HasOneContent}
use Rattle.config_file.specs.declared.key.KeyError.{KeyError}
use Rattle.config_file.specs.declared.errors.Stop.{Stop as Told}
use Rattle.config_file.specs.declared.settings.AddError.{AddError}
use Rattle.config_file.specs.declared.settings.AddError.TheVariants as error
use Rattle.config_file.specs.declared.walk.FilePlace.{FilePlace}
use Rattle.config_file.specs.declared.walk.Known.{Known}
use Rattle.config_file.proofs.OneAddition.{last, same_found}
use Rattle.config_file.proofs.OneKey.{one_answer}
use Rattle.config_file.proofs.OneText.{one_text}
use Rattle.config_file.proofs.OneWalk.{texts_agree}
use Rattle.uses.specs.SettingHeadline.{WalksAll, ends, whole, stops, NoneHas, IsLast, here, later, HasText, alone}
use Rattle.uses.specs.SettingHeadline.{spelled, IsDecided, StopsWith, Gives, SettingHeadline, IsSameFound}
use Rattle.uses.specs.SettingHeadline.{HasMemory}
use Rattle.uses.specs.declared.setting_headline.FirstFile.{FirstFile}
use Rattle.uses.specs.declared.setting_headline.NoValue.{NoValue}
use Rattle.uses.specs.declared.setting_headline.NoValue.TheVariants as no_value

-- ---- entries

none_or_last : {key : Key} {found : List (List ℕ × Entry)} {a : List ℕ × Entry} → NoneHas key found
    → IsLast key found a → ⊥
none_or_last {key = key} none (here {last = a} {after = after} has more) =
    All-head (λ one. ¬ (HasKey one.1 key)) a after none has
none_or_last {key = key} none (later {first = first} {found = found} is) =
    none_or_last (All-tail (λ one. ¬ (HasKey one.1 key)) first found none) is

one_last : {key : Key} {found : List (List ℕ × Entry)} {a b : List ℕ × Entry} → IsLast key found a
    → IsLast key found b → a ≡ b
one_last (here has none) (here also no_more) = refl
one_last (here has none) (later is) = absurd (none_or_last none is)
one_last (later is) (here has none) = absurd (none_or_last none is)
one_last (later is) (later so) = one_last is so

one_text_of : {entry : Entry} {s t : List ℕ} → HasText entry s → HasText entry t → s ≡ t
one_text_of (alone none) (alone also) = refl
one_text_of (alone none) (spelled some spells) = absurd (none-some _ (sym none ∙ some))
one_text_of (spelled some spells) (alone none) = absurd (none-some _ (sym none ∙ some))
one_text_of (spelled {text = s} {ending = e} some spells) (spelled {raw = raw} also spells2) =
    one_text (subst (λ r. SpellsValue r s e) (same_Some _ raw (sym some ∙ also)) spells) spells2

-- ---- walks

module _ (contents : List ℕ → Content → Type 0) (known : Known) (one : HasOneContent contents) where
  one_file : (place : FilePlace) (text : List ℕ) (f g : List (List ℕ × Entry)) (s t : Option (List ℕ × Stop))
      (v w : Bool) → (s ≡ None → v ≡ true) → (t ≡ None → w ≡ true)
      → WalksText contents known place text (map found_item f ++ last s) v
      → WalksText contents known place text (map found_item g ++ last t) w → (f ≡ g) × (s ≡ t)
  one_file place text f g s t v w first second is so =
      same_found f g s t v w first second (texts_agree {text = text} one is so)

  to_end : (place : FilePlace) (text : List ℕ) (found : List (List ℕ × Entry))
      → WalksText contents known place text (map found_item found) true
      → WalksText contents known place text (map found_item found ++ last None) true
  to_end place text found walks = rw (append-nil (map found_item found)) walks

  one_walks : (files : List FirstFile) (f g : List (List ℕ × Entry)) (s t : Option (List ℕ × Stop))
      → WalksAll contents known files f s → WalksAll contents known files g t → (f ≡ g) × (s ≡ t)
  one_walks [] f g s t ends ends = (refl, refl)
  one_walks (file ∷ others) f g s t (whole found more walks rest) (whole others_found others_more also left) =
      let (same, none) = one_file file.place file.text.now found others_found None None true true (λ e. refl) (λ e. refl)
      (to_end file.place file.text.now found walks) (to_end file.place file.text.now others_found also) in
      let (after, stop) = one_walks others more others_more s t rest left in
      (ap (λ x. x ++ more) same ∙ ap (λ x. others_found ++ x) after, stop)
  one_walks (file ∷ others) f g s t (whole found more walks rest) (stops {file = name} {stop = at} also) =
      let (same, none) = one_file file.place file.text.now found g None (Some (name, at)) true false (λ e. refl)
      (λ e. absurd (none-some _ (sym e))) (to_end file.place file.text.now found walks) also in absurd (none-some _ none)
  one_walks (file ∷ others) f g s t (stops {file = name} {stop = at} walks) (whole found more also left) =
      let (same, none) = one_file file.place file.text.now f found (Some (name, at)) None false true
      (λ e. absurd (none-some _ (sym e))) (λ e. refl) walks (to_end file.place file.text.now found also) in
      absurd (none-some _ (sym none))
  one_walks (file ∷ others) f g s t (stops {file = name} {stop = at} walks) (stops {file = other} {stop = there} also) =
      one_file file.place file.text.now f g (Some (name, at)) (Some (other, there)) false false
      (λ e. absurd (none-some _ (sym e))) (λ e. absurd (none-some _ (sym e))) walks also

  module _ (files : List FirstFile) where
    whole_or_stop : {found : List (List ℕ × Entry)} (e : AddError) → HasMemory {V = Bool} (Err (no_value.Stops e))
        → WalksAll contents known files found None → StopsWith contents known files e → ⊥
    whole_or_stop (error.Memory m) memory walks is = memory
    whole_or_stop {found = f} (error.Stops told) memory walks (found, file, stop, also, tells) =
        none-some _ (one_walks files f found None (Some (file, stop)) walks also).1

    no_entry_or_decided : {found : List (List ℕ × Entry)} {key other : Key} {entry : List ℕ × Entry} {text : List ℕ}
        → key ≡ other → WalksAll contents known files found None → NoneHas key found
        → IsDecided contents known files other entry text → ⊥
    no_entry_or_decided {found = found} {entry = entry} same walks none is =
        let (founds, stop) = one_walks files found is.found None None walks is.walks in
        none_or_last (rw (same, founds) at none) is.is_last

    both_decided : {key other : Key} {a b : List ℕ × Entry} {s t : List ℕ} → key ≡ other
        → IsDecided contents known files key a s → IsDecided contents known files other b t → (a ≡ b) × (s ≡ t)
    both_decided {a = a} {b = b} {s = s} same is so =
        let (founds, stop) = one_walks files is.found so.found None None is.walks so.walks in
        let entries = one_last (rw (same, founds) at is.is_last) so.is_last in
        (entries, one_text_of (subst (λ e. HasText e.1 s) entries is.has_text) so.has_text)

    stopped : {found more : List (List ℕ × Entry)} {file other : List ℕ} {at to : Stop} (e f : Told (Bor (List ℕ)))
        → WalksAll contents known files found (Some (file, at)) → TellsStop file at e
        → WalksAll contents known files more (Some (other, to)) → TellsStop other to f
        → IsSameEnd (Err (error.Stops e)) (Err (error.Stops f))
    stopped {found = g} {more = h} {file = file} {other = other} {at = at} {to = to} e f walks tells also so =
        let (founds, both) = one_walks files g h (Some (file, at)) (Some (other, to)) walks also in
        let same = same_Some (file, at) (other, to) both in
        (file, at, tells, rw (ap (λ p. p.0) same, ap (λ p. p.1) same) so)

    same_stop : (e f : AddError) → HasMemory {V = Bool} (Err (no_value.Stops e))
        → HasMemory {V = Bool} (Err (no_value.Stops f)) → StopsWith contents known files e
        → StopsWith contents known files f → IsSameEnd (Err e) (Err f)
    same_stop (error.Memory m) f memory also is so = absurd memory
    same_stop e (error.Memory m) memory also is so = absurd also
    same_stop (error.Stops e) (error.Stops f) memory also (g, name, s, walks, tells) (h, o, t, more, so) =
        stopped e f walks tells more so

-- ---- answers

same_key : {text : List ℕ} {a b : Key} → IsKey text a → IsKey text b → a ≡ b
same_key {text = text} {a = a} {b = b} is so =
    let same : ◌≡◌ {A = Result Key KeyError} (Ok a) (Ok b) = one_answer text (Ok a) (Ok b) is so in cc

key_or_refused : {text : List ℕ} {a : Key} {e : KeyError} → IsKey text a → RefusesKey text e → ⊥
key_or_refused {text = text} {a = a} {e = e} is refused =
    let same : ◌≡◌ {A = Result Key KeyError} (Ok a) (Err e) = one_answer text (Ok a) (Err e) is refused in cc

same_refusal : {text : List ℕ} {e f : KeyError} → RefusesKey text e → RefusesKey text f → e ≡ f
same_refusal {text = text} {e = e} {f = f} is so =
    let same : ◌≡◌ {A = Result Key KeyError} (Err e) (Err f) = one_answer text (Err e) (Err f) is so in cc

module _ {V : Type 0} (grammar : List ℕ → V → Type 0) (refusal : List ℕ → Fault → Type 0)
    (reads : HasOneReading grammar refusal) (contents : List ℕ → Content → Type 0) (known : Known)
    (one : HasOneContent contents) (files : List FirstFile) (text : List ℕ) where
  same_given : (key : Key) (a b : Result (Option V) NoValue) → HasMemory a → HasMemory b
      → Gives contents known files key grammar refusal a → Gives contents known files key grammar refusal b
      → IsSameFound a b
  same_given key (Err (no_value.Key e)) b memory also is so = absurd is
  same_given key a (Err (no_value.Key e)) memory also is so = absurd so
  same_given key (Ok None) (Ok None) memory also is so = refl
  same_given key (Ok None) (Ok (Some w)) memory also (found, walks, none) (entry, t, is, given) =
      absurd (no_entry_or_decided contents known one files refl walks none is)
  same_given key (Ok None) (Err (no_value.Refused f l t e)) memory also (found, walks, none) (entry, is, file, line, refused, nor) =
      absurd (no_entry_or_decided contents known one files refl walks none is)
  same_given key (Ok None) (Err (no_value.Stops e)) memory also (found, walks, none) so =
      absurd (whole_or_stop contents known one files e also walks so)
  same_given key (Ok (Some v)) (Ok None) memory also (entry, t, is, given) (found, walks, none) =
      absurd (no_entry_or_decided contents known one files refl walks none is)
  same_given key (Ok (Some v)) (Ok (Some w)) memory also (entry, t, is, given) (other, u, so, too) =
      let (entries, texts) = both_decided contents known one files refl is so in
      ap (λ x. Some x) (reads.one_value u v w (rw texts at given) too)
  same_given key (Ok (Some v)) (Err (no_value.Refused f l u e)) memory also (entry, t, is, given)
      (other, so, file, line, refused, none) =
      let (entries, texts) = both_decided contents known one files refl is so in absurd (none v (rw texts at given))
  same_given key (Ok (Some v)) (Err (no_value.Stops e)) memory also (entry, t, is, given) so =
      absurd (whole_or_stop contents known one files e also is.walks so)
  same_given key (Err (no_value.Refused f l t e)) (Ok None) memory also (entry, is, file, line, refused, nor) (found, walks, none) =
      absurd (no_entry_or_decided contents known one files refl walks none is)
  same_given key (Err (no_value.Refused f l u e)) (Ok (Some w)) memory also (other, so, file, line, refused, none)
      (entry, t, is, given) =
      let (entries, texts) = both_decided contents known one files refl is so in absurd (none w (rw texts at given))
  same_given key (Err (no_value.Refused f l t d)) (Err (no_value.Refused g m u e)) memory also
      (entry, is, file, line, refused, none) (other, so, file2, line2, refused2, none2) =
      let (entries, texts) = both_decided contents known one files refl is so in (
        file ∙ ap (λ x. x.0) entries ∙ sym file2,
        line ∙ ap (λ x. x.1.line) entries ∙ sym line2,
        texts,
        reads.one_fault u.items d e none2 (rw texts at refused) refused2,
      )
  same_given key (Err (no_value.Refused f l t d)) (Err (no_value.Stops e)) memory also (entry, is, file, line, refused, nor) so =
      absurd (whole_or_stop contents known one files e also is.walks so)
  same_given key (Err (no_value.Stops e)) (Ok None) memory also is (found, walks, none) =
      absurd (whole_or_stop contents known one files e memory walks is)
  same_given key (Err (no_value.Stops e)) (Ok (Some w)) memory also is (entry, t, so, given) =
      absurd (whole_or_stop contents known one files e memory so.walks is)
  same_given key (Err (no_value.Stops e)) (Err (no_value.Refused f l t d)) memory also is (entry, so, file, line, refused, nor) =
      absurd (whole_or_stop contents known one files e memory so.walks is)
  same_given key (Err (no_value.Stops e)) (Err (no_value.Stops f)) memory also is so =
      same_stop contents known one files e f memory also is so

  -- the key of an answer that is none of its refusal
  abbrev HasKeyOf : Result (Option V) NoValue → Type 0
  HasKeyOf result = (key : Key) × IsKey text key × Gives contents known files key grammar refusal result

  both_given : (a b : Result (Option V) NoValue) → HasMemory a → HasMemory b → HasKeyOf a → HasKeyOf b
      → IsSameFound a b
  both_given a b memory also (key, is, gives) (other, so, too) =
      same_given other a b memory also (rw (same_key is so) at gives) too

  pub one_found : (a b : Result (Option V) NoValue) → HasMemory a → HasMemory b
      → SettingHeadline contents known files text grammar refusal a
      → SettingHeadline contents known files text grammar refusal b → IsSameFound a b
  one_found (Err (no_value.Key e)) (Err (no_value.Key f)) memory also is so = same_refusal {text = text} is so
  one_found (Err (no_value.Key e)) (Ok v) memory also is so = absurd (key_or_refused so.1 is)
  one_found (Err (no_value.Key e)) (Err (no_value.Refused f l t d)) memory also is so = absurd (key_or_refused so.1 is)
  one_found (Err (no_value.Key e)) (Err (no_value.Stops f)) memory also is so = absurd (key_or_refused so.1 is)
  one_found (Ok v) (Err (no_value.Key e)) memory also is so = absurd (key_or_refused is.1 so)
  one_found (Err (no_value.Refused f l t d)) (Err (no_value.Key e)) memory also is so = absurd (key_or_refused is.1 so)
  one_found (Err (no_value.Stops f)) (Err (no_value.Key e)) memory also is so = absurd (key_or_refused is.1 so)
  one_found (Ok v) (Ok w) memory also is so = both_given (Ok v) (Ok w) memory also is so
  one_found (Ok v) (Err (no_value.Refused f l t d)) memory also is so =
      both_given (Ok v) (Err (no_value.Refused f l t d)) memory also is so
  one_found (Ok v) (Err (no_value.Stops f)) memory also is so =
      both_given (Ok v) (Err (no_value.Stops f)) memory also is so
  one_found (Err (no_value.Refused f l t d)) (Ok w) memory also is so =
      both_given (Err (no_value.Refused f l t d)) (Ok w) memory also is so
  one_found (Err (no_value.Stops f)) (Ok w) memory also is so =
      both_given (Err (no_value.Stops f)) (Ok w) memory also is so
  one_found (Err (no_value.Refused f l t d)) (Err (no_value.Refused g m u e)) memory also is so =
      both_given (Err (no_value.Refused f l t d)) (Err (no_value.Refused g m u e)) memory also is so
  one_found (Err (no_value.Refused f l t d)) (Err (no_value.Stops e)) memory also is so =
      both_given (Err (no_value.Refused f l t d)) (Err (no_value.Stops e)) memory also is so
  one_found (Err (no_value.Stops f)) (Err (no_value.Refused g m u e)) memory also is so =
      both_given (Err (no_value.Stops f)) (Err (no_value.Refused g m u e)) memory also is so
  one_found (Err (no_value.Stops f)) (Err (no_value.Stops e)) memory also is so =
      both_given (Err (no_value.Stops f)) (Err (no_value.Stops e)) memory also is so
