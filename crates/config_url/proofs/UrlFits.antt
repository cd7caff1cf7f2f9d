-- The settings that are of a URL, and the closest of them.
use Rattle.std.proofs.Common.{◌≡◌, ◌≤◌, ◌<◌, ◌+◌, ◌++◌, ◌∙◌, ◌⊎◌, inl, inr, ℕ, Bool, true}
use Rattle.std.proofs.Common.{List, [], ◌∷◌, Some, None, Option, length, take, map}
use Rattle.std.proofs.Common.{refl, sym, ap, arith, ◌↔◌, IsTrue, MatchOption, Result, Ok, Err, IfOk}
use Rattle.std.specs.Prelude.{is_some}
use Rattle.std.specs.Borrow.{Bor}
use Rattle.std.specs.Char.{to_ascii_lowercase}
use Rattle.std.specs.List.{All, slice_get}
use Rattle.std.proofs.lemmas.Bool.{true≢false}
use Rattle.std.proofs.lemmas.List.{append_assoc, take_all}
use Rattle.std.proofs.lemmas.List.Elements.{All-nil, All-cons, All-append, All-push}
use Rattle.std.proofs.lemmas.Option.{none-some, same_Some}
use Rattle.config_url.specs.Deciding.{IsUnder, Fits}
use Rattle.config_file.specs.File.{Entry}
use Rattle.config_file.specs.Key.{Key, IsCut}
use Rattle.config_file.specs.Listing.{IsListed}
use Rattle.config_file.specs.Settings.{AreListed}
use Rattle.config_url.specs.Url.{Url, IsUrl, Matches, Fit, weakest, fit_of, IsCloser}
use Rattle.config_file.specs.Views.{entry_of}
use Rattle.config_file.specs.declared.settings.Setting.{Setting}
use Rattle.config_url.specs.Reading.Fits.{Best, BestOf, FitsBy}
use Rattle.config_file.proofs.Last.{listed_at}
use Rattle.config_file.proofs.OneKey.{cut_same}
use Rattle.config_file.proofs.Picked.{take_next}
use Rattle.config_url.proofs.UrlMatches.{url_only}
use Rattle.config_url.proofs.UrlPatterns.{listed_only}

-- the text that Git lists for an entry is this
abbrev pub IsOnly : List ℕ → Entry → Type 0
IsOnly items entry = (listed : List ℕ) → IsListed entry.section entry.key listed → items ≡ listed

abbrev lower : List ℕ → List ℕ
lower text = map to_ascii_lowercase text

fits_under : (key : Key) (u : Url) (entry : Entry) (f : Fit) → Fits key u entry f
    → (sub : Option (List ℕ)) × IsUnder key entry sub
fits_under key u entry f (inl is) = (None, is.0)
fits_under key u entry f (inr is) = (Some is.0, is.2)

-- what is found says which fit the entry has, if it has one
abbrev pub DecidesBy : {V : Type 0} → (V → Fit) → Key → Url → Entry → Option V → Type 0
DecidesBy view key u entry found = MatchOption found ((f : Fit) → ¬ (Fits key u entry f))
    (λ v. Fits key u entry (view v) × ((f : Fit) → Fits key u entry f → f ≡ view v))

-- what is found says how closely the text fits as a pattern, if it does
abbrev pub FitsPattern : {V : Type 0} → (V → Fit) → List ℕ → Url → Option V → Type 0
FitsPattern view text u found =
    MatchOption found ((p : Url) → IsUrl true text p → ¬ (Matches p u)) (λ v. FitsBy text u (view v))

module _ (key : Key) (u : Url) (entry : Entry) (items : List ℕ) (k : Key) (only : IsOnly items entry) (cut : IsCut items k) where
  parts_are : {sub : Option (List ℕ)} (under : IsUnder key entry sub) → under.parts ≡ k
  parts_are under = cut_same (rw (sym (only under.text under.is_listed)) at under.is_cut) cut

  subsections : {sub : Option (List ℕ)} → IsUnder key entry sub → k.subsection ≡ sub
  subsections under = sym (ap (λ p. p.subsection) (parts_are under)) ∙ under.has_subsection

  pub other_section : ¬ (lower k.section ≡ lower key.section) → (f : Fit) → ¬ (Fits key u entry f)
  other_section other f fits =
      let (sub, under) = fits_under key u entry f fits in
      other (ap (λ p. lower p.section) (sym (parts_are under)) ∙ under.same_section)

  pub other_name : ¬ (lower k.name ≡ lower key.name) → (f : Fit) → ¬ (Fits key u entry f)
  other_name other f fits =
      let (sub, under) = fits_under key u entry f fits in
      other (ap (λ p. lower p.name) (sym (parts_are under)) ∙ under.same_name)

  weakest_only : k.subsection ≡ None → (f : Fit) → Fits key u entry f → f ≡ weakest
  weakest_only has f (inl (under, e)) = e
  weakest_only has f (inr (text, p, under, is, match, e)) = absurd (none-some text (sym has ∙ subsections under))

  pattern_only : (p : Url) (sub : List ℕ) → k.subsection ≡ Some sub → IsUrl true sub p → (f : Fit)
      → Fits key u entry f → Matches p u × (f ≡ fit_of p)
  pattern_only p sub has is f (inl (under, e)) = absurd (none-some sub (sym (subsections under) ∙ has))
  pattern_only p sub has is f (inr (text, q, under, other, match, e)) =
      let urls : q ≡ p = url_only q p (rw (same_Some _ _ (sym (subsections under) ∙ has)) at other) is in
      (rw urls at match, e ∙ ap fit_of urls)

  module _ (text : List ℕ) (listed : IsListed entry.section entry.key text)
      (section : lower k.section ≡ lower key.section) (name : lower k.name ≡ lower key.name)
      (none : key.subsection ≡ None) where
    is_under : {sub : Option (List ℕ)} → k.subsection ≡ sub → IsUnder key entry sub
    is_under has = record {
      text = items;
      parts = k;
      is_listed = rw (only text listed) listed;
      is_cut = cut;
      same_section = section;
      same_name = name;
      has_subsection = has;
      alone = none;
    }

    pub fits_weakest : k.subsection ≡ None
        → Fits key u entry weakest × ((f : Fit) → Fits key u entry f → f ≡ weakest)
    fits_weakest has = (inl (is_under has, refl), weakest_only has)

    pattern_fits : {V : Type 0} (view : V → Fit) (r : Option V) (sub : List ℕ) → k.subsection ≡ Some sub
        → FitsPattern view sub u r → DecidesBy view key u entry r
    pattern_fits view None sub has never = λ f fits. elim fits [
      | inl is ↦ none-some sub (sym (subsections is.0) ∙ has)
      | inr is ↦ never is.1 (rw (same_Some _ _ (sym (subsections is.2) ∙ has)) at is.3) is.4
    ]
    pattern_fits view (Some v) sub has (p, is, match, e) =
        (inr (sub, p, is_under has, is, match, e), λ f fits. (pattern_only p sub has is f fits).1 ∙ sym e)

    pub pattern_fits_ok : {V E : Type 0} (view : V → Fit) (r : Result (Option V) E) (sub : List ℕ)
        → k.subsection ≡ Some sub → IfOk r (FitsPattern view sub u) → IfOk r (DecidesBy view key u entry)
    pattern_fits_ok view (Ok found) sub has by = pattern_fits view found sub has by
    pattern_fits_ok view (Err e) sub has by = tt

-- a pattern below the key decides
pub under_fits : {V E : Type 0} (view : V → Fit) (u : Url) (r : Result (Option V) E) {key : Key}
    {entry : Entry} {sub : List ℕ} → IsUnder key entry (Some sub) → IfOk r (FitsPattern view sub u)
    → IfOk r (DecidesBy view key u entry)
under_fits view u r {key = key} {entry = entry} {sub = sub} under =
    pattern_fits_ok key u entry under.text under.parts (λ listed is. listed_only under.is_listed is)
    under.is_cut under.text under.is_listed under.same_section under.same_name under.alone view r sub under.has_subsection

pub fits_by : {V : Type 0} (view : V → Fit) (u : Url) (r : Option V) {text : List ℕ} {p : Url}
    → IsUrl true text p
    → MatchOption r (¬ (Matches p u)) (λ v. Matches p u × (view v ≡ fit_of p))
    → FitsPattern view text u r
fits_by view u None {p = p} is not = λ q other match. not (rw (url_only q p other is) at match)
fits_by view u (Some v) {p = p} is (match, e) = (p, is, match, e)

pub is_found : {V : Type 0} (view : V → Fit) (found : Option V) (r : Bool) {key : Key} {u : Url}
    {entry : Entry} → r ≡ is_some found → DecidesBy view key u entry found → IsTrue r ↔ ((f : Fit) × Fits key u entry f)
is_found view None r e never = rw e (λ yes. absurd (true≢false (sym yes)), λ is. absurd (never is.0 is.1))
is_found view (Some v) r e (is, only) = rw e (λ yes. (view v, is), λ is. refl)

-- ---- orders of fits

-- between a fit and a closer one, any fit is closer than the first, or the second is closer than it
between : (a b c : Fit) → IsCloser a c → IsCloser a b ⊎ IsCloser b c
between a b c closer = grind arith

asym : (a b : Fit) → IsCloser a b → IsCloser b a → ⊥
asym a b closer other = grind arith

-- ---- one setting after the other

abbrev Lacks : Key → Url → Setting → Type 0
Lacks key u setting = (f : Fit) → ¬ (Fits key u (entry_of setting.entry) f)

abbrev Weaker : Key → Url → Fit → Setting → Type 0
Weaker key u g setting = (f : Fit) → Fits key u (entry_of setting.entry) f → IsCloser f g

abbrev NotCloser : Key → Url → Fit → Setting → Type 0
NotCloser key u g setting = (f : Fit) → Fits key u (entry_of setting.entry) f → ¬ (IsCloser g f)

module _ {V : Type 0} (view : V → Fit) (key : Key) (u : Url) where
  pub best_first : BestOf view key u [] None
  best_first = All-nil (Lacks key u)

  best_more : (settings : List Setting) (setting : Setting) (f : Fit) (kept : Setting)
      → Best key u settings f kept → Weaker key u f setting → Best key u (settings ++ setting ∷ []) f kept
  best_more settings setting f kept best weaker =
      let b = best.closest in record {
        closest = record {
          before = b.before;
          after = b.after ++ setting ∷ [];
          found = b.found;
          among = ap (λ s. s ++ setting ∷ []) b.among ∙ append_assoc b.before (kept ∷ b.after) (setting ∷ []);
          fits = b.fits;
          none_closer = b.none_closer;
          later_weaker = All-push (Weaker key u b.found) b.after setting b.later_weaker
              (λ g fits. rw best.same (weaker g fits));
        };
        same = best.same;
        only = best.only;
      }

  pub best_lacks : (settings : List Setting) (setting : Setting) (best : Option (V × Bor Setting))
      → Lacks key u setting → BestOf view key u settings best → BestOf view key u (settings ++ setting ∷ []) best
  best_lacks settings setting None never before = All-push (Lacks key u) settings setting before never
  best_lacks settings setting (Some (v, kept)) never before =
      best_more settings setting (view v) kept.now before (λ f fits. absurd (never f fits))

  pub best_kept : (settings : List Setting) (setting : Setting) (g : Fit) (v : V) (kept : Bor Setting)
      → ((f : Fit) → Fits key u (entry_of setting.entry) f → f ≡ g) → IsCloser g (view v)
      → BestOf view key u settings (Some (v, kept))
      → BestOf view key u (settings ++ setting ∷ []) (Some (v, kept))
  best_kept settings setting g v kept only below before =
      best_more settings setting (view v) kept.now before (λ f fits. rw (only f fits) below)

  earlier_best : (settings : List Setting) (g found : Fit) (kept : Setting) → Best key u settings found kept
      → ¬ (IsCloser g found) → All (NotCloser key u g) settings
  earlier_best settings g found kept best not =
      let b = best.closest in
      let worse : ¬ (IsCloser g b.found) = λ closer. not (rw best.same at closer) in
      rw b.among (All-append (NotCloser key u g) b.before (kept ∷ b.after)
      (λ k d within f fits closer. elim (between g b.found f closer) [
        | inl is ↦ worse is
        | inr is ↦ b.none_closer k d within f fits is
      ])
      (All-cons (NotCloser key u g) kept b.after
      (λ f fits closer. worse (rw (best.only f fits ∙ sym best.same) at closer))
      (λ k d within f fits closer. elim (between f g b.found (b.later_weaker k d within f fits)) [
        | inl is ↦ asym f g is closer
        | inr is ↦ worse is
      ])))

  module _ (settings : List Setting) (v : V) (setting : Bor Setting) (is : Fits key u (entry_of setting.now.entry) (view v))
      (only : (f : Fit) → Fits key u (entry_of setting.now.entry) f → f ≡ view v) where
    best_new : All (NotCloser key u (view v)) settings
        → BestOf view key u (settings ++ setting.now ∷ []) (Some (v, setting))
    best_new earlier = record {
      closest = record {
        before = settings;
        after = [];
        found = view v;
        among = refl;
        fits = is;
        none_closer = earlier;
        later_weaker = All-nil (Weaker key u (view v));
      };
      same = refl;
      only = only;
    }

    pub best_taken : (other : V) (kept : Bor Setting) → ¬ (IsCloser (view v) (view other))
        → BestOf view key u settings (Some (other, kept))
        → BestOf view key u (settings ++ setting.now ∷ []) (Some (v, setting))
    best_taken other kept not before = best_new (earlier_best settings (view v) (view other) kept.now before not)

    pub best_only : BestOf view key u settings None
        → BestOf view key u (settings ++ setting.now ∷ []) (Some (v, setting))
    best_only before = best_new (λ k d within f fits closer. before k d within f fits)

  pub best_done : (settings : List Setting) (i : ℕ) (best : Option (V × Bor Setting)) → length settings ≤ i
      → (AreListed settings → BestOf view key u (take i settings) best) → AreListed settings
      → BestOf view key u settings best
  best_done settings i best past before listed = rw (take_all i settings past) at (before listed)

  pub best_next : (settings : List Setting) (i : ℕ) (setting : Setting) (best next : Option (V × Bor Setting))
      → slice_get settings i ≡ Some setting → i < length settings
      → ((front : List Setting) (text : List ℕ) → IsListed (entry_of setting.entry).section (entry_of setting.entry).key text
      → BestOf view key u front best → BestOf view key u (front ++ setting ∷ []) next)
      → (AreListed settings → BestOf view key u (take i settings) best) → AreListed settings
      → BestOf view key u (take (i + 1) settings) next
  best_next settings i setting best next at within step before listed =
      let (text, is) = listed_at settings i setting at within listed in
      rw (take_next settings i setting at within) (step (take i settings) text is (before listed))
