-- Patterns of URLs: paths, and what fits.
use Rattle.std.proofs.Common.{◌≡◌, ◌≢◌, ◌+◌, ◌++◌, ◌∙◌, ◌↔◌, inl, inr, ◌==◌, not, ℕ, Bool, false, List}
use Rattle.std.proofs.Common.{[], ◌∷◌, Some, None, Option, length, IsTrue, eqb-true, refl, sym, ap}
use Rattle.std.proofs.Common.{arith, Result, Ok, Err, IfOk, MatchOption}
use Rattle.std.specs.Prelude.{unwrap_or, is_some}
use Rattle.std.specs.List.{AllZip}
use Rattle.std.proofs.lemmas.Bool.Decides.{nat_tests}
use Rattle.std.proofs.lemmas.List.{length-append}
use Rattle.config_url.specs.Url.{closed, SplitUrl, Url, url, IsPort, IsUser, IsForm, IsUrl}
use Rattle.config_url.specs.Url.{IsPath, IsWritten, Matches, AllowsUser, StandsFor, pieces, fit, fit_of}
use Rattle.config_file.proofs.OneRun.{run_only}
use Rattle.config_url.proofs.UrlNormal.{normal_only}
use Rattle.config_url.proofs.UrlParts.{written_only}
use Rattle.config_url.proofs.UrlPaths.{path_only}

-- ---- a path with a slash at its end

closed_snoc : (a : List ℕ) → closed (a ++ 47 ∷ []) ≡ a ++ 47 ∷ []
unfolding closed
closed_snoc [] = refl
closed_snoc (b ∷ []) = refl
closed_snoc (b ∷ c ∷ a) = ap (λ t. b ∷ t) (closed_snoc (c ∷ a))

closed_more : (a : List ℕ) (x : ℕ) → (x == 47) ≡ false → closed (a ++ x ∷ []) ≡ (a ++ x ∷ []) ++ 47 ∷ []
unfolding closed
closed_more [] x e = rw e refl
closed_more (b ∷ []) x e = rw e refl
closed_more (b ∷ c ∷ a) x e = ap (λ t. b ∷ t) (closed_more (c ∷ a) x e)

pub closed_slash : (path front : List ℕ) (last : ℕ) → path ≡ front ++ last ∷ [] → last ≡ 47
    → closed path ≡ front ++ 47 ∷ []
closed_slash path front last e f =
    ap closed (e ∙ ap (λ x. front ++ x ∷ []) f) ∙ closed_snoc front

pub closed_other : (path front : List ℕ) (last : ℕ) → path ≡ front ++ last ∷ [] → last ≢ 47
    → closed path ≡ path ++ 47 ∷ []
closed_other path front last e f =
    let off : (last == 47) ≡ false = grind (arith, nat_tests) in
    ap closed e ∙ closed_more front last off ∙ ap (λ p. p ++ 47 ∷ []) (sym e)

pub closed_none : (path : List ℕ) → length path ≡ 0 → closed path ≡ path ++ 47 ∷ []
unfolding closed
closed_none [] e = refl
closed_none (b ∷ path) e = absurd (omega (arith, e))

-- ---- at or below

abbrev pub Below : List ℕ → List ℕ → Type 0
Below front path = (rest : List ℕ) × (path ++ 47 ∷ [] ≡ (front ++ 47 ∷ []) ++ rest)

pub below_slash : (b : ℕ) (wanted left after front path : List ℕ) (r : Bool) → wanted ≡ [] → left ≡ b ∷ after
    → r ≡ (b == 47) → (Below wanted left ↔ Below front path) → (IsTrue r ↔ Below front path)
below_slash b wanted left after front path r e f test same = (
  λ t. same.0 (rw (e, f, eqb-true b 47 (rw test at t)) (after ++ 47 ∷ [], refl)),
  λ p. let (rest, whole) = rw (e, f) at (same.1 p) in let heads : b ≡ 47 = cc in rw (test, heads),
)

-- ---- one URL

some_not_default : (scheme digits : List ℕ) (n : ℕ) → IsPort scheme digits None
    → IsPort scheme digits (Some n) → ⊥
some_not_default scheme digits n (inl e) is = is.0 e
some_not_default scheme digits n (inr d) is = is.4 (rw is.1 at d)

pub port_only : (scheme digits : List ℕ) (a b : Option ℕ) → IsPort scheme digits a → IsPort scheme digits b
    → a ≡ b
port_only scheme digits None None p q = refl
port_only scheme digits None (Some n) p q = absurd (some_not_default scheme digits n p q)
port_only scheme digits (Some n) None p q = absurd (some_not_default scheme digits n q p)
port_only scheme digits (Some n) (Some m) p q = ap Some (sym p.1 ∙ q.1)

pub user_only : (login : Option (List ℕ)) (a b : Option (List ℕ)) → IsUser login a → IsUser login b → a ≡ b
user_only None a b p q = p ∙ sym q
user_only (Some login) a b (n, x, r, is, cut, e) (m, y, s, other, also, f) =
    let (names, rest) = run_only (rw (normal_only is other) at cut) also in e ∙ ap Some names ∙ sym f

url_same : {s t h i x y : List ℕ} {u v : Option (List ℕ)} {p q : Option ℕ} → s ≡ t → u ≡ v → h ≡ i → p ≡ q → x ≡ y
    → url s u h p x ≡ url t v i q y
url_same e f g h i = rw (e, f, g, h, i)

pub form_only : {p : SplitUrl} (a b : Url) → IsForm p a → IsForm p b → a ≡ b
form_only {p = p} a b f g =
    let schemes : a.scheme ≡ b.scheme = f.scheme ∙ sym g.scheme in
    url_same schemes (user_only p.login a.user b.user f.user g.user) (f.host ∙ sym g.host)
    (port_only b.scheme (unwrap_or p.port []) a.port b.port (rw schemes at f.port) g.port)
    (path_only a.path b.path f.path g.path)

pub url_only : {s : Bool} {text : List ℕ} (a b : Url) → IsUrl s text a → IsUrl s text b → a ≡ b
url_only a b (p, w, f) (q, v, g) = form_only a b (rw (written_only p q w v) at f) g

-- what is written so has no URL if its parts have none
pub no_url : {s : Bool} {text : List ℕ} (p : SplitUrl) → IsWritten s text p → ((u : Url) → ¬ (IsForm p u))
    → (u : Url) → ¬ (IsUrl s text u)
no_url p w never u (q, v, f) = never u (rw (sym (written_only p q w v)) at f)

pub read_is : {V E : Type 0} (view : V → Url) {s : Bool} {text : List ℕ} (p : SplitUrl) (r : Result (Option V) E)
    → IsWritten s text p
    → IfOk r (λ found. MatchOption found ((u : Url) → ¬ (IsForm p u)) (λ v. IsForm p (view v)))
    → IfOk r (λ found. MatchOption found ((u : Url) → ¬ (IsUrl s text u)) (λ v. IsUrl s text (view v)))
read_is view p (Ok None) w h = no_url p w h
read_is view p (Ok (Some v)) w h = (p, w, h)
read_is view p (Err e) w h = h

-- ---- what matches

pub matches : (pattern u : Url) (front : List ℕ) → pattern.scheme ≡ u.scheme → AllowsUser pattern.user u.user
    → AllZip StandsFor (pieces 46 pattern.host) (pieces 46 u.host) → pattern.port ≡ u.port
    → Below front u.path
    → closed pattern.path ≡ front ++ 47 ∷ [] → Matches pattern u
matches pattern u front scheme user host port below e =
    record { scheme = scheme; user = user; host = host; port = port; path = (below.0, rw e below.1) }

pub fit_same : (p : Url) (front : List ℕ) (h n : ℕ) (b : Bool) → h ≡ length p.host
    → closed p.path ≡ front ++ 47 ∷ []
    → n ≡ length front + 1 → b ≡ is_some p.user → fit h n b ≡ fit_of p
fit_same p front h n b e f g i =
    let long : n ≡ length (closed p.path) = omega (arith, g, ap length f, length-append front (47 ∷ [])) in
    rw (e, long, i)

-- a pattern whose path is its own normal form matches no URL that is not at or below it
pub not_below : (p u : Url) (path front : List ℕ) → IsPath path path → IsPath path p.path
    → closed path ≡ front ++ 47 ∷ [] → ¬ (Below front u.path) → ¬ (Matches p u)
not_below p u path front own is e not match =
    not (match.path.0, rw (path_only p.path path is own, e) at match.path.1)
