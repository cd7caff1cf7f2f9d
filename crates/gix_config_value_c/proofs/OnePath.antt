-- From the same input the path call writes and returns the same.
use Rattle.std.proofs.Common.{◌≡◌, ℕ, List, [], ◌∷◌, Bool, true, false, Option, None, Some}
use Rattle.std.proofs.Common.{refl, sym, subst, ◌∙◌, arith}
use Rattle.config_path.specs.Laws.Interpolation.{one_result_of}
use Rattle.gix_config_value.specs.Path.{Marked}
use Rattle.gix_config_value.specs.Interpolation.{PathResult, PathTable, HaveOneHome}
use Rattle.gix_config_value_c.specs.declared.status.Status.TheVariants as statuses
use Rattle.gix_config_value_c.specs.Answers.{HasOneAnswer}
use Rattle.gix_config_value_c.specs.Numbers.{flag_number}
use Rattle.gix_config_value_c.specs.Values.{IsNoValue}
use Rattle.gix_config_value_c.specs.Paths.{IsGiven, HasBadFlag, users_in, known_of, longest_block}
use Rattle.gix_config_value_c.specs.Paths.{IsPathFault, PutsPath, InterpolatesInto}
use Rattle.gix_config_value_c.specs.Paths.InterpolatesInto.{interpolated, bad_flag}
use Rattle.gix_config_value_c.proofs.OneAnswer.{puts_once, left_once}

-- ---- what is given, and a bad flag

pub given_once : (given : ℕ × List ℕ) (t u : Option (List ℕ)) → IsGiven given t → IsGiven given u → t ≡ u
given_once given t u p q = grind arith

pub not_bad : (given : ℕ × List ℕ) (t : Option (List ℕ)) → IsGiven given t → ¬ (IsNoValue flag_number given.0)
not_bad given None p never = never false p
not_bad given (Some t) p never = never true p.0

never_bad : (a b c : ℕ × List ℕ) (i h p : Option (List ℕ)) → IsGiven a i → IsGiven b h → IsGiven c p
    → ¬ (HasBadFlag (a.0 ∷ b.0 ∷ c.0 ∷ []))
never_bad a b c i h p x y z bad = grind (arith, not_bad)

-- ---- what is put

pub mark_once : (t : List ℕ) (a b : Bool) (k m : List ℕ) → Marked t a k → Marked t b m → (a ≡ b) × (k ≡ m)
mark_once t true true k m p q = (refl, cc)
mark_once t true false k m p q = absurd (q.1 k p)
mark_once t false true k m p q = absurd (p.1 m q)
mark_once t false false k m p q = (refl, p.0 ∙ sym q.0)

fault_once : (result : PathResult) (m n : ℕ) → IsPathFault result m → IsPathFault result n → m ≡ n
fault_once result m n p q = grind arith

path_once : (longest : ℕ) (result : PathResult) (buffer a b : List ℕ) (size m n fault f g status other : ℕ)
    → PutsPath longest result buffer a size m fault f status → PutsPath longest result buffer b size n fault g other
    → (a ≡ b) × (m ≡ n) × (f ≡ g) × (status ≡ other)
path_once longest result buffer a b size m n fault f g status other p q = grind (arith, puts_once, left_once, fault_once)

one_home : (passwd : Option (List ℕ)) → HaveOneHome (users_in passwd)
one_home None = tt
one_home (Some passwd) = λ name home other p q. p ∙ sym q

one_table : (i h p j k q : Option (List ℕ)) (value whole : List ℕ) (r s : PathResult) → i ≡ j → h ≡ k → p ≡ q
    → value ≡ whole → PathTable (known_of i h p) value r → PathTable (known_of j k q) whole s → r ≡ s
one_table i h p j k q value whole r s a b c d x y =
    one_result_of (known_of i h p) (one_home p) value r s x (rw (a, b, c, d) y)

pub interpolates_once : (t : List ℕ) (install_dir home passwd : ℕ × List ℕ)
    → HasOneAnswer (λ (out out' : List ℕ × ℕ) size size' status. InterpolatesInto t install_dir home passwd out.0 out'.0 size size' out.1 out'.1 status)
interpolates_once t install_dir home passwd out a b size m n s r (interpolated i h p o v x gi gh gp mark table puts) (interpolated j k q u w y gj gk gq marked told more) =
    let same = one_table i h p j k q v w x y (given_once install_dir i j gi gj) (given_once home h k gh gk) (given_once passwd p q gp gq) (mark_once t o u v w mark marked).1 table told in
    let one = path_once longest_block x out.0 a.0 b.0 size m n out.1 a.1 b.1 s r puts (subst (λ z. PutsPath longest_block z out.0 b.0 size n out.1 b.1 r) (sym same) more) in
    (λ i. (one.0 i, one.2 i), one.1, one.3)
interpolates_once t install_dir home passwd out a b size m n s r (interpolated i h p o v x gi gh gp mark table puts) (bad_flag flag left kept) =
    absurd (never_bad install_dir home passwd i h p gi gh gp flag)
interpolates_once t install_dir home passwd out a b size m n s r (bad_flag flag left kept) (interpolated i h p o v x gi gh gp mark table puts) =
    absurd (never_bad install_dir home passwd i h p gi gh gp flag)
interpolates_once t install_dir home passwd out a b size m n s r (bad_flag flag left kept) (bad_flag also gone same) =
    let one = left_once statuses.BadFlag out.0 a.0 b.0 size m n s r left gone in
    (λ i. (one.0 i, (kept ∙ sym same) i), one.1, one.2)
