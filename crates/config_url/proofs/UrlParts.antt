-- The parts of a URL: each text is cut into them in at most one way.
use Rattle.std.proofs.Common.{◌≡◌, ◌≢◌, ◌<◌, ◌+◌, ◌++◌, ◌∙◌, inl, inr, ℕ, Bool, true, false, List, [], ◌∷◌}
use Rattle.std.proofs.Common.{Some, None, Option, length, take, drop, get_or, ◌==◌, ◌&&◌}
use Rattle.std.proofs.Common.{refl, sym, ap, arith}
use Rattle.std.specs.Prelude.{unwrap_or, codes}
use Rattle.std.specs.Char.{is_ascii_digit, is_ascii_alphabetic}
use Rattle.std.specs.List.{list_all, list_any, AllWithin}
use Rattle.std.proofs.lemmas.Bool.{true≢false, false≢true, and_parts, cases_Bool}
use Rattle.std.proofs.lemmas.Bool.Decides.{nat_tests}
use Rattle.std.proofs.lemmas.List.{length-drop, drop_more, get_or-drop, take-append-drop}
use Rattle.std.proofs.lemmas.List.Folds.{list_all-append}
use Rattle.std.proofs.lemmas.List.Sums.{list_all-from_AllPass}
use Rattle.config_file.specs.Runs.{Run}
use Rattle.config_url.specs.Url.{SplitUrl, IsWritten, IsWhole, place_text, is_scheme, is_scheme_byte}
use Rattle.config_url.specs.Url.{is_place_byte, is_login_byte, is_host_byte}
use Rattle.config_url.specs.Reading.Urls.{CutsScheme, CutsLogin, CutsPort, IsCutUrl, no_at, is_port_byte}
use Rattle.config_file.proofs.OneRun.{run_same, run_only}
use Rattle.config_file.proofs.LineEnds.{all_more}

-- ---- tests of bytes

differs : (test : ℕ → Bool) (n b : ℕ) → test b ≡ true → test n ≡ false → b ≢ n
differs test n b is non e = true≢false (sym is ∙ ap test e ∙ non)

not_this : (test : ℕ → Bool) (n b : ℕ) → test b ≡ true → test n ≡ false → (n == b) ≡ false
not_this test n b is non = let other = differs test n b is non in grind (arith, nat_tests)

not_that : (test : ℕ → Bool) (n b : ℕ) → test b ≡ true → test n ≡ false → (b == n) ≡ false
not_that test n b is non = let other = differs test n b is non in grind (arith, nat_tests)

pub all_both : (q : ℕ → Bool) (xs ys : List ℕ) → list_all q xs ≡ true → list_all q ys ≡ true
    → list_all q (xs ++ ys) ≡ true
all_both q xs ys e f = rw (list_all-append q xs ys, e, f) refl

pub all_front : (q : ℕ → Bool) (xs ys : List ℕ) → list_all q (xs ++ ys) ≡ true → list_all q xs ≡ true
all_front q xs ys e = (and_parts (list_all q xs) (list_all q ys) (sym (list_all-append q xs ys) ∙ e)).0

pub all_with : (p q r : ℕ → Bool) → ((b : ℕ) → p b ≡ true → q b ≡ true → r b ≡ true) → (xs : List ℕ)
    → list_all p xs ≡ true → list_all q xs ≡ true → list_all r xs ≡ true
all_with p q r more [] e f = refl
all_with p q r more (b ∷ xs) e f =
    let (here_p, later_p) = and_parts (p b) (list_all p xs) e in
    let (here_q, later_q) = and_parts (q b) (list_all q xs) f in
    rw (more b here_p here_q, all_with p q r more xs later_p later_q) refl

place_byte : (test : ℕ → Bool) → test 47 ≡ false → test 63 ≡ false → test 35 ≡ false → (b : ℕ) → test b ≡ true
    → is_place_byte b ≡ true
place_byte test e f g b h = rw (not_this test 47 b h e, not_this test 63 b h f, not_this test 35 b h g) refl

no_at_byte : (test : ℕ → Bool) → test 64 ≡ false → (b : ℕ) → test b ≡ true → no_at b ≡ true
no_at_byte test e b h = rw (not_that test 64 b h e) refl

host_place : (s : Bool) (b : ℕ) → is_host_byte s b ≡ true → is_place_byte b ≡ true
host_place true = place_byte (is_host_byte true) refl refl refl
host_place false = place_byte (is_host_byte false) refl refl refl

host_no_at : (s : Bool) (b : ℕ) → is_host_byte s b ≡ true → no_at b ≡ true
host_no_at true = no_at_byte (is_host_byte true) refl
host_no_at false = no_at_byte (is_host_byte false) refl

digit_port : (b : ℕ) → is_ascii_digit b ≡ true → is_port_byte b ≡ true
digit_port b h = rw (not_that is_ascii_digit 58 b h refl, not_that is_ascii_digit 93 b h refl) refl

login_place : (b : ℕ) → is_login_byte b ≡ true → is_place_byte b ≡ true
login_place b h = (and_parts (is_place_byte b) (no_at b) h).0

login_no_at : (b : ℕ) → is_login_byte b ≡ true → no_at b ≡ true
login_no_at b h = (and_parts (is_place_byte b) (no_at b) h).1

-- ---- the scheme

scheme_bytes : (s : List ℕ) → is_scheme s ≡ true → list_all is_scheme_byte s ≡ true
scheme_bytes [] e = absurd (false≢true e)
scheme_bytes (b ∷ s) e = (and_parts (is_ascii_alphabetic b) (list_all is_scheme_byte (b ∷ s)) e).1

pub scheme_run : {text s r : List ℕ} → CutsScheme text s r → Run is_scheme_byte text s (codes "://" ++ r)
scheme_run {s = s} cut = record { joined = cut.joined; pass = scheme_bytes s cut.is; longest = refl }

pub no_scheme : {text front : List ℕ} (rest : List ℕ) → Run is_scheme_byte text front rest
    → is_scheme front ≡ false
    → (s r : List ℕ) → ¬ (CutsScheme text s r)
no_scheme rest run non s r cut =
    let (same, more) = run_only run (scheme_run cut) in false≢true (sym non ∙ ap is_scheme same ∙ cut.is)

pub no_mark : {text front : List ℕ} (rest : List ℕ) → Run is_scheme_byte text front rest
    → ((m : List ℕ) → ¬ (rest ≡ codes "://" ++ m)) → (s r : List ℕ) → ¬ (CutsScheme text s r)
no_mark rest run non s r cut = let (same, more) = run_only run (scheme_run cut) in non r more

-- ---- the login

within_not : (q : ℕ → Bool) (x : ℕ) (front back : List ℕ) {text : List ℕ} → q x ≡ false → text ≡ front ++ x ∷ back
    → list_all q text ≡ true → ⊥
within_not q x front back non same e =
    let parts : (list_all q front && (q x && list_all q back)) ≡ true =
    sym (list_all-append q front (x ∷ back)) ∙ ap (list_all q) (sym same) ∙ e in
    true≢false (sym (and_parts _ _ ((and_parts _ _ parts).1)).0 ∙ non)

login_only : (place r s : List ℕ) (a b : Option (List ℕ)) → CutsLogin place a r → CutsLogin place b s
    → (a ≡ b) × (r ≡ s)
login_only place r s None None e f = (refl, sym e.0 ∙ f.0)
login_only place r s None (Some y) e f = absurd (within_not no_at 64 y s refl f.0 e.1)
login_only place r s (Some x) None e f = absurd (within_not no_at 64 x r refl e.0 f.1)
login_only place r s (Some x) (Some y) e f =
    let (same, more) = run_same no_at x y (64 ∷ r) (64 ∷ s) e.1 f.1 refl refl (sym e.0 ∙ f.0) in
    (ap Some same, cc)

-- ---- the port

any_within : (a m : List ℕ) → list_any (λ b. b == 93) (a ++ 93 ∷ m) ≡ true
any_within [] m = refl
any_within (x ∷ a) m = elim (cases_Bool (x == 93)) [ inl e ↦ rw e refl | inr e ↦ rw (e, any_within a m) refl ]

whole_after : (a m front back : List ℕ) → list_all is_port_byte m ≡ true → a ++ 93 ∷ m ≡ front ++ 58 ∷ back
    → list_any (λ b. b == 93) back ≡ true
whole_after [] m [] back pass e = absurd (false≢true (ap (λ t. get_or t 0 0 == 58) e))
whole_after [] m (y ∷ front) back pass e =
    let tails : m ≡ front ++ 58 ∷ back = cc in
    absurd (within_not is_port_byte 58 front back refl tails pass)
whole_after (x ∷ a) m [] back pass e = let tails : a ++ 93 ∷ m ≡ back = cc in rw tails at (any_within a m)
whole_after (x ∷ a) m (y ∷ front) back pass e =
    let tails : a ++ 93 ∷ m ≡ front ++ 58 ∷ back = cc in whole_after a m front back pass tails

pub last_port : (text : List ℕ) (i : ℕ) → i < length text
    → AllWithin (λ b. is_port_byte b ≡ true) text (i + 1) (length text)
    → (list_all is_port_byte (drop (i + 1) text) ≡ true) × (text ≡ take i text ++ get_or text i 0 ∷ drop (i + 1) text)
last_port text i within later =
    let rest = drop (i + 1) text in
    let none : list_all is_port_byte rest ≡ true =
    list_all-from_AllPass is_port_byte rest
    (λ k d inside. rw (get_or-drop (i + 1) text k d)
    (later (i + 1 + k) d (omega arith) (omega (arith, length-drop (i + 1) text)))) in
    (none, sym (take-append-drop i text) ∙ ap (λ t. take i text ++ t) (drop_more text i 0 within))

-- a text has no port if it has no colon, or if a `]` follows the last colon
pub no_colon : (text : List ℕ) → AllWithin (λ b. is_port_byte b ≡ true) text 0 (length text) → IsWhole text None
no_colon text each front back e = absurd (within_not is_port_byte 58 front back refl e
    (list_all-from_AllPass is_port_byte text (λ k d within. each k d (omega arith) within)))

pub last_bracket : (text : List ℕ) (i : ℕ) → i < length text
    → AllWithin (λ b. is_port_byte b ≡ true) text (i + 1) (length text) → is_port_byte (get_or text i 0) ≡ false
    → get_or text i 0 ≢ 58 → IsWhole text None
last_bracket text i within later stops other front back e =
    let (none, joined) = last_port text i within later in
    let bracket : get_or text i 0 ≡ 93 = grind (arith, nat_tests) in
    whole_after (take i text) (drop (i + 1) text) front back none (sym (rw bracket at joined) ∙ e)

last_mark : (a m b n : List ℕ) → list_all is_port_byte m ≡ true → list_all is_port_byte n ≡ true
    → a ++ 58 ∷ m ≡ b ++ 58 ∷ n → (a ≡ b) × (m ≡ n)
last_mark [] m [] n p q e = (refl, cc)
last_mark [] m (y ∷ b) n p q e =
    let tails : m ≡ b ++ 58 ∷ n = cc in
    absurd (within_not is_port_byte 58 b n refl tails p)
last_mark (x ∷ a) m [] n p q e =
    let tails : n ≡ a ++ 58 ∷ m = cc in
    absurd (within_not is_port_byte 58 a m refl tails q)
last_mark (x ∷ a) m (y ∷ b) n p q e =
    let heads : x ≡ y = cc in
    let tails : a ++ 58 ∷ m ≡ b ++ 58 ∷ n = cc in
    let (fronts, backs) = last_mark a m b n p q tails in (cc, backs)

no_bracket : (m : List ℕ) → list_all is_port_byte m ≡ true → list_any (λ b. b == 93) m ≡ true → ⊥
no_bracket [] p e = false≢true e
no_bracket (b ∷ m) p e =
    let (here, more) = and_parts (is_port_byte b) (list_all is_port_byte m) p in
    let other : (b == 93) ≡ false = not_that is_port_byte 93 b here refl in
    no_bracket m more (rw other at e)

port_only : (text h k : List ℕ) (a b : Option (List ℕ)) → CutsPort text h a → CutsPort text k b
    → (h ≡ k) × (a ≡ b)
port_only text h k None None e f = (sym e.0 ∙ f.0, refl)
port_only text h k None (Some y) e f = absurd (no_bracket y f.1 (e.1 k y (sym e.0 ∙ f.0)))
port_only text h k (Some x) None e f = absurd (no_bracket x e.1 (f.1 h x (sym f.0 ∙ e.0)))
port_only text h k (Some x) (Some y) e f =
    let (same, more) = last_mark h x k y e.1 f.1 (sym e.0 ∙ f.0) in (same, ap Some more)

-- ---- all parts

abbrev build : List ℕ → Option (List ℕ) → List ℕ → Option (List ℕ) → List ℕ → SplitUrl
build scheme login host port path =
    record { scheme = scheme; login = login; host = host; port = port; path = path }

same_parts : {s t h i x y : List ℕ} {l m p q : Option (List ℕ)} → s ≡ t → l ≡ m → h ≡ i → p ≡ q → x ≡ y
    → build s l h p x ≡ build t m i q y
same_parts e f g h i = rw (e, f, g, h, i)

pub parts_only : {text : List ℕ} (a b : SplitUrl) → IsCutUrl text a → IsCutUrl text b → a ≡ b
parts_only a b first second =
    let (schemes, marks) = run_only (scheme_run first.cuts_scheme) (scheme_run second.cuts_scheme) in
    let afters : first.after ≡ second.after = cc in
    let (places, paths) = run_only first.cuts_place (rw (sym afters) at second.cuts_place) in
    let (logins, names) = login_only first.place first.named second.named a.login b.login first.cuts_login
    (rw (sym places) at second.cuts_login) in
    let (hosts, ports) = port_only first.named a.host b.host a.port b.port first.cuts_port
    (rw (sym names) at second.cuts_port) in
    same_parts schemes logins hosts ports paths

-- ---- what is written is cut so

named_all : (q : ℕ → Bool) (s : Bool) (host : List ℕ) (port : Option (List ℕ))
    → ((b : ℕ) → is_host_byte s b ≡ true → q b ≡ true) → ((b : ℕ) → is_ascii_digit b ≡ true → q b ≡ true)
    → q 58 ≡ true → list_all (is_host_byte s) host ≡ true → IsWhole host port
    → list_all q (place_text None host port) ≡ true
named_all q s host None of_host of_digit of_colon bytes whole = all_more (is_host_byte s) q of_host host bytes
named_all q s host (Some port) of_host of_digit of_colon bytes whole =
    all_both q host (58 ∷ port) (all_more (is_host_byte s) q of_host host bytes)
    (rw (of_colon, all_more is_ascii_digit q of_digit port whole) refl)

-- what is written before the path, by whether there is a login
with_login : (login host : List ℕ) (port : Option (List ℕ))
    → place_text (Some login) host port ≡ login ++ 64 ∷ place_text None host port
with_login login host None = refl
with_login login host (Some port) = refl

place_all : (s : Bool) (login : Option (List ℕ)) (host : List ℕ) (port : Option (List ℕ))
    → list_all is_login_byte (unwrap_or login []) ≡ true → list_all (is_host_byte s) host ≡ true
    → IsWhole host port
    → list_all is_place_byte (place_text login host port) ≡ true
place_all s None host port logs bytes whole =
    named_all is_place_byte s host port (host_place s) (place_byte is_ascii_digit refl refl refl) refl bytes whole
place_all s (Some login) host port logs bytes whole =
    rw (with_login login host port) (all_both is_place_byte login (64 ∷ place_text None host port)
    (all_more is_login_byte is_place_byte login_place login logs)
    (named_all is_place_byte s host port (host_place s) (place_byte is_ascii_digit refl refl refl) refl bytes whole))

login_cut : (s : Bool) (login : Option (List ℕ)) (host : List ℕ) (port : Option (List ℕ))
    → list_all is_login_byte (unwrap_or login []) ≡ true → list_all (is_host_byte s) host ≡ true
    → IsWhole host port
    → CutsLogin (place_text login host port) login (place_text None host port)
login_cut s None host port logs bytes whole =
    (refl, named_all no_at s host port (host_no_at s) (no_at_byte is_ascii_digit refl) refl bytes whole)
login_cut s (Some login) host port logs bytes whole =
    (with_login login host port, all_more is_login_byte no_at login_no_at login logs)

port_cut : (host : List ℕ) (port : Option (List ℕ)) → IsWhole host port
    → CutsPort (place_text None host port) host port
port_cut host None whole = (refl, whole)
port_cut host (Some port) whole = (refl, all_more is_ascii_digit is_port_byte digit_port port whole)

pub written_cut : {s : Bool} {text : List ℕ} (p : SplitUrl) → IsWritten s text p → IsCutUrl text p
written_cut {s = s} p w = record {
  after = place_text p.login p.host p.port ++ p.path;
  place = place_text p.login p.host p.port;
  named = place_text None p.host p.port;
  cuts_scheme = record { joined = w.joined; is = w.scheme };
  cuts_place = record {
    joined = refl;
    pass = place_all s p.login p.host p.port w.login w.host w.port;
    longest = w.path;
  };
  cuts_login = login_cut s p.login p.host p.port w.login w.host w.port;
  cuts_port = port_cut p.host p.port w.port;
}

-- ---- what is cut so, and has bytes of hosts and digits, is written

whole_of : (text host : List ℕ) (port : Option (List ℕ)) → CutsPort text host port
    → list_all is_ascii_digit (unwrap_or port []) ≡ true → IsWhole host port
whole_of text host None cut digits = cut.1
whole_of text host (Some port) cut digits = digits

named_is : (text host : List ℕ) (port : Option (List ℕ)) → CutsPort text host port
    → text ≡ place_text None host port
named_is text host None cut = cut.0
named_is text host (Some port) cut = cut.0

place_is : (place named host : List ℕ) (login port : Option (List ℕ)) → CutsLogin place login named
    → named ≡ place_text None host port → place ≡ place_text login host port
place_is place named host None port cut e = cut.0 ∙ e
place_is place named host (Some login) port cut e =
    cut.0 ∙ ap (λ t. login ++ 64 ∷ t) e ∙ sym (with_login login host port)

login_of : (place named : List ℕ) (login : Option (List ℕ)) → CutsLogin place login named
    → list_all is_place_byte place ≡ true → list_all is_login_byte (unwrap_or login []) ≡ true
login_of place named None cut pass = refl
login_of place named (Some login) cut pass =
    all_with is_place_byte no_at is_login_byte (λ b e f. rw (e, f) refl) login
    (all_front is_place_byte login (64 ∷ named) (rw cut.0 at pass)) cut.1

pub cut_written : {s : Bool} {text : List ℕ} (p : SplitUrl) → IsCutUrl text p
    → list_all (is_host_byte s) p.host ≡ true
    → list_all is_ascii_digit (unwrap_or p.port []) ≡ true → IsWritten s text p
cut_written p cut bytes digits = record {
  joined = cut.cuts_scheme.joined ∙ ap (λ t. p.scheme ++ (codes "://" ++ t)) (cut.cuts_place.joined
      ∙ ap (λ t. t ++ p.path) (place_is cut.place cut.named p.host p.login p.port cut.cuts_login
      (named_is cut.named p.host p.port cut.cuts_port)));
  scheme = cut.cuts_scheme.is;
  login = login_of cut.place cut.named p.login cut.cuts_login cut.cuts_place.pass;
  host = bytes;
  port = whole_of cut.named p.host p.port cut.cuts_port digits;
  path = cut.cuts_place.longest;
}

pub digits_of : (host : List ℕ) (port : Option (List ℕ)) → IsWhole host port
    → list_all is_ascii_digit (unwrap_or port []) ≡ true
digits_of host None whole = refl
digits_of host (Some port) whole = whole

-- ---- what is not written

pub unwritten : {s : Bool} {text : List ℕ} → ((p : SplitUrl) → ¬ (IsCutUrl text p)) → (p : SplitUrl)
    → ¬ (IsWritten s text p)
unwritten non p w = non p (written_cut p w)

pub wrong_host : {s : Bool} {text : List ℕ} (p : SplitUrl) → IsCutUrl text p
    → list_all (is_host_byte s) p.host ≡ false
    → (q : SplitUrl) → ¬ (IsWritten s text q)
wrong_host {s = s} p cut non q w =
    let same : p ≡ q = parts_only p q cut (written_cut q w) in
    false≢true (sym non ∙ ap (λ r. list_all (is_host_byte s) r.host) same ∙ w.host)

pub wrong_port : {s : Bool} {text : List ℕ} (p : SplitUrl) → IsCutUrl text p
    → list_all is_ascii_digit (unwrap_or p.port []) ≡ false → (q : SplitUrl) → ¬ (IsWritten s text q)
wrong_port p cut non q w =
    let same : p ≡ q = parts_only p q cut (written_cut q w) in
    false≢true (sym non ∙ ap (λ r. list_all is_ascii_digit (unwrap_or r.port [])) same ∙ digits_of q.host q.port w.port)

pub written_only : {s : Bool} {text : List ℕ} (p q : SplitUrl) → IsWritten s text p → IsWritten s text q
    → p ≡ q
written_only p q v w = parts_only p q (written_cut p v) (written_cut q w)
