-- A list of settings has one answer for a key.
use Rattle.std.proofs.Common.{slice_index_or, ◌≡◌, ℕ, List, Option, None, Some, refl, sym, ap, ◌∙◌, subst}
use Rattle.std.proofs.Common.{arith, inl, inr}
use Rattle.std.specs.Prelude.{Result, Ok, Err}
use Rattle.std.specs.List.{slice_get}
use Rattle.std.proofs.lemmas.Option.{same_Some, get_or_from_slice_get, slice_get_within}
use Rattle.std.proofs.lemmas.Bool.{cases_order}
use Rattle.config_text.specs.declared.errors.Fault.{Fault}
use Rattle.config_file.specs.Key.{Key, HasKey, IsKey, RefusesKey}
use Rattle.config_file.specs.Settings.{IsLast, LacksKey, IsUnset, IsDecided, Gets, HasOneReading}
use Rattle.config_file.specs.Settings.{IsSameAnswer, text_of, value_text}
use Rattle.config_file.specs.Views.{entry_of}
use Rattle.config_file.specs.declared.key.KeyError.{KeyError}
use Rattle.config_file.specs.declared.settings.Setting.{Setting}
use Rattle.config_file.specs.declared.settings.GetError.{GetError}
use Rattle.config_file.specs.declared.settings.GetError.TheVariants as get
use Rattle.config_file.proofs.OneKey.{one_answer}

module _ (settings : List Setting) (key : Key) where
  -- the setting at this index does not have the key
  not_at : (i : ℕ) (setting : Setting) → slice_get settings i ≡ Some setting
      → ((d : Setting) → ¬ (HasKey (entry_of (slice_index_or settings i d).entry) key))
      → ¬ (HasKey (entry_of setting.entry) key)
  not_at i setting at none =
      subst (λ s. ¬ (HasKey (entry_of s.entry) key)) (get_or_from_slice_get settings i setting setting at) (none setting)

  one_last : {a b : Setting} → IsLast settings key a → IsLast settings key b → a ≡ b
  one_last {a = a} {b = b} (i, at, has, none) (j, too, also, no_more) =
      elim (cases_order i j) [
        | inl same ↦ same_Some a b (sym at ∙ ap (λ k. slice_get settings k) same ∙ too)
        | inr (inl less) ↦
            absurd (not_at j b too (λ d. none j d (omega arith) (slice_get_within settings j b too)) also)
        | inr (inr more) ↦
            absurd (not_at i a at (λ d. no_more i d (omega arith) (slice_get_within settings i a at)) has)
      ]

  last_or_none : {a : Setting} → IsLast settings key a → LacksKey settings key → ⊥
  last_or_none {a = a} (i, at, has, none) lacks =
      not_at i a at (λ d. lacks i d (slice_get_within settings i a at)) has

module _ {V : Type 0} (grammar : List ℕ → V → Type 0) (refusal : List ℕ → Fault → Type 0)
    (settings : List Setting) (text : List ℕ) (one : HasOneReading grammar refusal) where
  same_key : {a b : Key} → IsKey text a → IsKey text b → a ≡ b
  same_key {a = a} {b = b} is so =
      let same : ◌≡◌ {A = Result Key KeyError} (Ok a) (Ok b) = one_answer text (Ok a) (Ok b) is so in cc

  key_or_refused : {a : Key} {e : KeyError} → IsKey text a → RefusesKey text e → ⊥
  key_or_refused {a = a} {e = e} is refused =
      let same : ◌≡◌ {A = Result Key KeyError} (Ok a) (Err e) = one_answer text (Ok a) (Err e) is refused in cc

  one_decided : {a b : Setting} → IsDecided settings text a → IsDecided settings text b → a ≡ b
  one_decided (k, is, first) (l, so, second) = one_last settings k first (rw (same_key so is) at second)

  decided_or_unset : {a : Setting} → IsDecided settings text a → IsUnset settings text → ⊥
  decided_or_unset (k, is, last) (l, so, lacks) = last_or_none settings k last (rw (same_key so is) at lacks)

  pub one_get : (a b : Result (Option V) GetError) → Gets grammar refusal settings text a
      → Gets grammar refusal settings text b → IsSameAnswer a b
  one_get (Err (get.NoWord r)) b is so = absurd is
  one_get a (Err (get.NoWord r)) is so = absurd so
  one_get (Ok None) (Ok None) is so = refl
  one_get (Ok None) (Ok (Some v)) is (s, so, given) = absurd (decided_or_unset so is)
  one_get (Ok None) (Err (get.Key e)) is refused = absurd (key_or_refused is.1 refused)
  one_get (Ok None) (Err e) is so = absurd (decided_or_unset so.0 is)
  one_get (Ok (Some v)) (Ok None) (s, is, given) so = absurd (decided_or_unset is so)
  one_get (Ok (Some v)) (Ok (Some w)) (s, is, given) (t, so, also) =
      ap (λ x. Some x) (one.one_value (text_of t) v w (rw (one_decided is so) at given) also)
  one_get (Ok (Some v)) (Err (get.Refused r)) (s, is, given) (so, some, also, none) =
      absurd (none v (rw (one_decided is so) at given))
  one_get (Ok (Some v)) (Err (get.NoValue r)) (s, is, given) (so, alone, none) =
      absurd (none v (rw (one_decided is so) at given))
  one_get (Ok (Some v)) (Err (get.Key e)) (s, is, given) refused = absurd (key_or_refused is.1 refused)
  one_get (Err (get.Key e)) (Ok None) refused so = absurd (key_or_refused so.1 refused)
  one_get (Err (get.Key e)) (Ok (Some w)) refused (t, so, given) = absurd (key_or_refused so.1 refused)
  one_get (Err (get.Key e)) (Err (get.Key f)) refused also =
      let same : ◌≡◌ {A = Result Key KeyError} (Err e) (Err f) = one_answer text (Err e) (Err f) refused also in cc
  one_get (Err (get.Key e)) (Err f) refused so = absurd (key_or_refused so.0.1 refused)
  one_get (Err e) (Ok None) is so = absurd (decided_or_unset is.0 so)
  one_get (Err e) (Err (get.Key f)) is refused = absurd (key_or_refused is.0.1 refused)
  one_get (Err (get.Refused r)) (Ok (Some w)) (is, some, given, none) (t, so, also) =
      absurd (none w (rw (one_decided so is) at also))
  one_get (Err (get.Refused r)) (Err (get.Refused q)) (is, some, given, none) (so, too, also, nor) =
      let same = one_decided is so in
      (same, one.one_fault (text_of q.setting.now) r.fault q.fault nor (rw same at given) also)
  one_get (Err (get.Refused r)) (Err (get.NoValue q)) (is, some, given, none) (so, alone, nor) =
      absurd (some (ap value_text (one_decided is so) ∙ alone))
  one_get (Err (get.NoValue r)) (Ok (Some w)) (is, alone, none) (t, so, also) =
      absurd (none w (rw (one_decided so is) at also))
  one_get (Err (get.NoValue r)) (Err (get.Refused q)) (is, alone, none) (so, some, also, nor) =
      absurd (some (ap value_text (one_decided so is) ∙ alone))
  one_get (Err (get.NoValue r)) (Err (get.NoValue q)) (is, alone, none) (so, too, nor) = one_decided is so
