-- Paths of URLs, name by name.
use Rattle.std.proofs.Common.{◌≡◌, ◌≢◌, ◌++◌, ◌∙◌, ◌↔◌, ◌==◌, ℕ, true, false, List, [], ◌∷◌, Some}
use Rattle.std.proofs.Common.{None, Option, Bool, inl, inr, length, drop, map, refl, sym, subst, ap}
use Rattle.std.proofs.Common.{eqb-true, arith}
use Rattle.std.specs.Prelude.{codes, flat_map, reverse}
use Rattle.std.specs.Borrow.{Bor}
use Rattle.std.specs.List.{list_all}
use Rattle.std.proofs.lemmas.Bool.{true≢false, and_parts, cases_Bool}
use Rattle.std.proofs.lemmas.Bool.Decides.{nat_tests}
use Rattle.std.proofs.lemmas.List.{append-nil, append_assoc, reverse-append, reverse-reverse}
use Rattle.std.proofs.lemmas.List.Folds.{list_all-append}
use Rattle.config_file.specs.Key.{is_no_dot}
use Rattle.config_file.specs.Runs.{Run}
use Rattle.config_url.specs.Url.{IsNormal, done, plain, escaped, is_unsafe, IsPath, is_path_byte, without_root, Leads, ends, stays, drops}
use Rattle.config_url.specs.Url.{keeps, pieces, joined_names, onto}
use Rattle.config_url.specs.Reading.Urls.{CutsPiece, Steps, is_own_byte}
use Rattle.config_file.proofs.LineEnds.{all_more}
use Rattle.config_file.proofs.OneRun.{run_only}
use Rattle.config_url.proofs.UrlNormal.{normal_only}
use Rattle.config_url.proofs.UrlPieces.{closed_next, closed_last}

dots : codes "." ≡ codes ".." → ⊥
dots e = true≢false (ap (λ t. length t == 1) e)

snoc_same : {X : Type 0} (a b : List X) (x y : X) → a ++ x ∷ [] ≡ b ++ y ∷ [] → a ≡ b
snoc_same a b x y e =
    let turned = sym (reverse-append a (x ∷ [])) ∙ ap reverse e ∙ reverse-append b (y ∷ []) in
    sym (reverse-reverse a) ∙ ap (λ t. reverse (drop 1 t)) turned ∙ reverse-reverse b

here_back : {kept rest all : List (List ℕ)} {name : List ℕ} → name ≡ codes "." → Leads kept (name ∷ rest) all
    → Leads kept rest all
here_back e (stays f l) = l
here_back e (drops last f g l) = absurd (dots (sym e ∙ f))
here_back e (keeps n m l) = absurd (n e)

pub here_steps : (kept : List (List ℕ)) (name : List ℕ) → name ≡ codes "." → (rest all : List (List ℕ))
    → (Leads kept rest all ↔ Leads kept (name ∷ rest) all)
here_steps kept name e rest all = (λ l. stays e l, λ l. here_back e l)

up_back : {kept front rest all : List (List ℕ)} {name : List ℕ} (last : List ℕ) → name ≡ codes ".."
    → kept ≡ front ++ last ∷ [] → Leads kept (name ∷ rest) all → Leads front rest all
up_back last e f (stays g l) = absurd (dots (sym g ∙ e))
up_back last e f (drops {front = other} one g h l) = rw (snoc_same other _ one last (sym h ∙ f)) at l
up_back last e f (keeps n m l) = absurd (m e)

pub up_steps : (kept front : List (List ℕ)) (name last : List ℕ) → name ≡ codes ".."
    → kept ≡ front ++ last ∷ []
    → (rest all : List (List ℕ)) → (Leads front rest all ↔ Leads kept (name ∷ rest) all)
up_steps kept front name last e f rest all = (λ l. drops last e f l, λ l. up_back last e f l)

name_back : {kept rest all : List (List ℕ)} {name : List ℕ} → name ≢ codes "." → name ≢ codes ".."
    → Leads kept (name ∷ rest) all → Leads (kept ++ name ∷ []) rest all
name_back d u (stays g l) = absurd (d g)
name_back d u (drops one g h l) = absurd (u g)
name_back d u (keeps n m l) = l

pub name_steps : (kept : List (List ℕ)) (name : List ℕ) → name ≢ codes "." → name ≢ codes ".."
    → (rest all : List (List ℕ)) → (Leads (kept ++ name ∷ []) rest all ↔ Leads kept (name ∷ rest) all)
name_steps kept name d u rest all = (λ l. keeps d u l, λ l. name_back d u l)

-- the kept names lead on as the names of the whole path do
abbrev pub LeadsAs : List (List ℕ) → List ℕ → List ℕ → Type 0
LeadsAs kept left path = (all : List (List ℕ))
    → (Leads kept (pieces 47 (left ++ 47 ∷ [])) all ↔ Leads [] (pieces 47 (path ++ 47 ∷ [])) all)

some_piece : (text piece : List ℕ) (after : Option (List ℕ)) → CutsPiece 47 text piece after
    → (more : List (List ℕ)) × (pieces 47 (text ++ 47 ∷ []) ≡ piece ∷ more)
some_piece text piece None cut = ([], closed_last 47 text piece cut)
some_piece text piece (Some after) cut = (pieces 47 (after ++ 47 ∷ []), closed_next 47 text piece after cut)

pub names_stop : (kept next : List (List ℕ)) (name left path : List ℕ) (after : Option (List ℕ))
    → CutsPiece 47 left name after → Steps kept name false next → LeadsAs kept left path
    → (all : List (List ℕ)) → ¬ (Leads [] (pieces 47 (path ++ 47 ∷ [])) all)
names_stop kept next name left path after cut never same all leads =
    let (more, e) = some_piece left name after cut in never more all (rw e at ((same all).1 leads))

pub names_end : (kept next : List (List ℕ)) (name left path : List ℕ) → CutsPiece 47 left name None
    → Steps kept name true next → LeadsAs kept left path → Leads [] (pieces 47 (path ++ 47 ∷ [])) next
names_end kept next name left path cut steps same =
    (same next).0 (rw (closed_last 47 left name cut) ((steps [] next).0 ends))

pub names_more : (kept next : List (List ℕ)) (name left after path : List ℕ)
    → CutsPiece 47 left name (Some after)
    → Steps kept name true next → LeadsAs kept left path → LeadsAs next after path
names_more kept next name left after path cut steps same all =
    let e = closed_next 47 left name after cut in
    let (there, back) = steps (pieces 47 (after ++ 47 ∷ [])) all in
    (λ l. (same all).0 (rw e (there l)), λ l. back (rw e at ((same all).1 l)))

-- ---- joined names

abbrev pub Joined : List (Bor (List ℕ)) → List ℕ
Joined names = flat_map (λ n. 47 ∷ n) (map (λ n. n.now) names)

-- ---- paths without dots

abbrev flat : List (List ℕ) → List ℕ
flat names = flat_map (λ n. 47 ∷ n) names

flat_onto : (b : ℕ) (names : List (List ℕ)) (text : List ℕ) → flat names ≡ 47 ∷ text
    → flat (onto b names) ≡ 47 ∷ b ∷ text
flat_onto b [] text e = cc
flat_onto b (name ∷ names) text e = ap (λ t. 47 ∷ b ∷ t) (ap (drop 1) e)

flat_pieces : (text : List ℕ) → flat (pieces 47 (text ++ 47 ∷ [])) ≡ 47 ∷ text
unfolding pieces
flat_pieces [] = refl
flat_pieces (b ∷ text) = elim (cases_Bool (b == 47)) [
  | inl h ↦ rw (h, flat_pieces text) (ap (λ c. 47 ∷ c ∷ text) (sym (eqb-true b 47 h)))
  | inr h ↦ rw h (flat_onto b (pieces 47 (text ++ 47 ∷ [])) text (flat_pieces text))
]

joined_is : (names : List (List ℕ)) (text : List ℕ) → flat names ≡ 47 ∷ text → joined_names names ≡ 47 ∷ text
joined_is [] text e = cc
joined_is (name ∷ names) text e = e

onto_pass : (test : ℕ → Bool) (b : ℕ) (names : List (List ℕ)) → test b ≡ true
    → list_all (list_all test) names ≡ true → list_all (list_all test) (onto b names) ≡ true
onto_pass test b [] here pass = rw here refl
onto_pass test b (name ∷ names) here pass =
    let (first, more) = and_parts (list_all test name) (list_all (list_all test) names) pass in
    rw (here, first, more) refl

pieces_pass : (test : ℕ → Bool) (s : ℕ) (text : List ℕ) → list_all test text ≡ true
    → list_all (list_all test) (pieces s text) ≡ true
unfolding pieces
pieces_pass test s [] pass = refl
pieces_pass test s (b ∷ text) pass =
    let (here, more) = and_parts (test b) (list_all test text) pass in elim (cases_Bool (b == s)) [
      | inl h ↦ rw h (pieces_pass test s text more)
      | inr h ↦ rw h (onto_pass test b (pieces s text) here (pieces_pass test s text more))
    ]

no_dot_here : (name : List ℕ) → list_all is_no_dot name ≡ true → name ≢ codes "."
no_dot_here name pass e = true≢false (sym pass ∙ ap (list_all is_no_dot) e)

no_dot_up : (name : List ℕ) → list_all is_no_dot name ≡ true → name ≢ codes ".."
no_dot_up name pass e = true≢false (sym pass ∙ ap (list_all is_no_dot) e)

all_kept : (kept names : List (List ℕ)) → list_all (list_all is_no_dot) names ≡ true
    → Leads kept names (kept ++ names)
all_kept kept [] pass = rw (append-nil kept) ends
all_kept kept (name ∷ names) pass =
    let (here, more) = and_parts (list_all is_no_dot name) (list_all (list_all is_no_dot) names) pass in
    keeps (no_dot_here name here) (no_dot_up name here)
    (rw (append_assoc kept (name ∷ []) names) at (all_kept (kept ++ name ∷ []) names more))

-- a path that begins with a slash and has no dot is in normal form
pub plain_path : {text normal names query : List ℕ} → IsNormal text normal
    → Run is_path_byte normal names query → (rest : List ℕ) × (names ≡ 47 ∷ rest) × (list_all is_no_dot rest ≡ true) → IsPath text normal
plain_path {names = names} {query = query} is cut (rest, e, pass) =
    let closed : list_all is_no_dot (rest ++ 47 ∷ []) ≡ true =
    rw (list_all-append is_no_dot rest (47 ∷ []), pass) refl in
    record {
      normal = _;
      names = names;
      query = query;
      kept = pieces 47 (rest ++ 47 ∷ []);
      is_normal = is;
      is_cut = cut;
      leads = rw e (all_kept [] (pieces 47 (rest ++ 47 ∷ []))
          (pieces_pass is_no_dot 47 (rest ++ 47 ∷ []) closed));
      joined = cut.joined
          ∙ ap (λ t. t ++ query) (e ∙ sym (joined_is (pieces 47 (rest ++ 47 ∷ [])) rest (flat_pieces rest)));
    }

-- ---- a path that is its own normal form

own_byte : (b : ℕ) → is_own_byte b ≡ true
    → (is_unsafe b ≡ false) × (is_path_byte b ≡ true) × (is_no_dot b ≡ true) × (b ≢ 37)
own_byte b is = grind (arith, nat_tests)

own_normal : (text : List ℕ) → list_all is_own_byte text ≡ true → IsNormal text text
own_normal [] pass = done
own_normal (b ∷ rest) pass =
    let (here, more) = and_parts (is_own_byte b) (list_all is_own_byte rest) pass in
    let (safe, _, _, other) = own_byte b here in
    subst (λ u. IsNormal (b ∷ rest) (escaped u b ++ rest)) safe (plain other (own_normal rest more))

pub own_path : (rest : List ℕ) → list_all is_own_byte rest ≡ true → IsPath (47 ∷ rest) (47 ∷ rest)
own_path rest pass =
    plain_path {names = 47 ∷ rest} {query = []} (own_normal (47 ∷ rest) pass) (record {
      joined = sym (append-nil (47 ∷ rest));
      pass = all_more is_own_byte is_path_byte (λ b is. (own_byte b is).1) (47 ∷ rest) pass;
      longest = tt;
    }) (rest, refl, all_more is_own_byte is_no_dot (λ b is. (own_byte b is).2) rest pass)

-- ---- one path

pub leads_only : {kept names a b : List (List ℕ)} → Leads kept names a → Leads kept names b → a ≡ b
leads_only ends ends = refl
leads_only (stays e l) m = leads_only l (here_back e m)
leads_only (drops last e f l) m = leads_only l (up_back last e f m)
leads_only (keeps d u l) m = leads_only l (name_back d u m)

pub no_path : {text normal : List ℕ} (names query root : List ℕ) → IsNormal text normal
    → Run is_path_byte normal names query → root ≡ without_root names
    → ((all : List (List ℕ)) → ¬ (Leads [] (pieces 47 (root ++ 47 ∷ [])) all)) → (path : List ℕ)
    → ¬ (IsPath text path)
no_path names_of query root is cut e never path p =
    let (names, rest) = run_only (rw (normal_only p.is_normal is) at p.is_cut) cut in
    never p.kept (rw (ap without_root names ∙ sym e) at p.leads)

pub path_only : {text : List ℕ} (a b : List ℕ) → IsPath text a → IsPath text b → a ≡ b
path_only a b p q =
    let (names, rest) = run_only (rw (normal_only p.is_normal q.is_normal) at p.is_cut) q.is_cut in
    let kept : p.kept ≡ q.kept = leads_only (rw names at p.leads) q.leads in
    p.joined ∙ ap (λ k. joined_names k ++ p.query) kept ∙ ap (λ r. joined_names q.kept ++ r) rest ∙ sym q.joined
