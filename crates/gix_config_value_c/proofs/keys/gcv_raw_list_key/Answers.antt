use Rattle.std.proofs.Common.{◌≡◌, ℕ, ◌+◌, List, [], ◌∷◌, ◌++◌, length, map, take, drop}
use Rattle.std.proofs.Common.{refl, sym, ap, ◌∙◌, arith}
use Rattle.std.specs.Char.{to_ascii_lowercase}
use Rattle.std.proofs.lemmas.List.{append_assoc, length-append, length-map, take_at, drop_at}
use borrow.Rule.Slice.PartMut.{put_mid}
use Rattle.config_file.specs.Bytes.{dot}
use Rattle.config_file.specs.Key.{Key, dotted, written, listed}
use Rattle.config_file.specs.KeyView.{key_of}
use Rattle.gix_config_value_c.specs.Buffers.PutsText.{whole, short}
use Rattle.gix_config_value_c.specs.Buffers.AnswersText.{put}
use Rattle.gix_config_value_c.proofs.keys.gcv_raw_list_key.Goals as goal

abbrev lower : List ℕ → List ℕ
lower = map to_ascii_lowercase

-- the last part of a text is changed
changed : (front back tail other : List ℕ)
    → put_mid (length front) (length back) (front ++ (back ++ tail)) other ≡ front ++ (other ++ tail)
changed front back tail other =
    rw (take_at front (back ++ tail) _ refl, drop_at front (back ++ tail) _ refl, drop_at back tail _ refl) refl

-- the front and the back of a text are written in lower case
lowered : (s m n t first second all : List ℕ) (seam at size : ℕ)
    → all ≡ s ++ (m ++ (n ++ t)) → seam ≡ length s → at ≡ length s + length m → size ≡ length n
    → first ≡ lower (take seam all) → second ≡ lower (take size (drop at (first ++ drop seam all)))
    → put_mid at size (first ++ drop seam all) second ≡ (lower s ++ m) ++ (lower n ++ t)
lowered s m n t first second all seam at size e d a b f g =
    let front : first ≡ lower s = f ∙ rw (e, d, take_at s (m ++ (n ++ t)) _ refl) refl in
    let rest : drop seam all ≡ m ++ (n ++ t) = rw (e, d, drop_at s (m ++ (n ++ t)) _ refl) refl in
    let whole : first ++ drop seam all ≡ (lower s ++ m) ++ (n ++ t) =
    rw (front, rest) (sym (append_assoc (lower s) m (n ++ t))) in
    let place : at ≡ length (lower s ++ m) = grind (arith, a, length-append, length-map) in
    let back : second ≡ lower n =
    g ∙ rw (whole, place, b, drop_at (lower s ++ m) (n ++ t) _ refl, take_at n t _ refl) refl in
    rw (whole, place, b, back) (changed (lower s ++ m) n t (lower n))

length_parts : (k : Key)
    → length (written k) ≡ length k.section + length (dotted k.subsection ++ dot ∷ []) + length k.name
length_parts k = grind (arith, length-append)

length_listed : (k : Key) → length (listed k) ≡ length (written k)
length_listed k = grind (arith, length-append, length-map)

cut : (k : Key) (t : List ℕ) → written k ++ t ≡ k.section ++ ((dotted k.subsection ++ dot ∷ []) ++ (k.name ++ t))
cut k t = grind (arith, append_assoc)

joined : (k : Key) (t : List ℕ)
    → (lower k.section ++ (dotted k.subsection ++ dot ∷ [])) ++ (lower k.name ++ t) ≡ listed k ++ t
joined k t = grind (arith, append_assoc)

pub returns-then-buffer-key : goal.returns-then-buffer-key
returns-then-buffer-key c =
    let k = key_of c.in-Some.parts in
    let size : length (listed k) ≡ length c.args.key.now = length_listed k ∙ sym (ap length c.in-Some.ensures.joined) in
    put (listed k) (k, c.in-Some.ensures, refl) (short (omega (arith, size, c.if-buffer-key.true)) refl (sym size) refl)

pub returns : goal.returns
returns c =
    let k = key_of c.in-Some.parts in
    let size : length (listed k) ≡ length c.args.key.now = length_listed k ∙ sym (ap length c.in-Some.ensures.joined) in
    let tail = drop (length c.args.key.now) c.args.buffer.now in
    let all : c.copy_from_slice.new.self ++ tail
    ≡ k.section ++ ((dotted k.subsection ++ dot ∷ []) ++ (k.name ++ tail)) =
    ap (λ bytes. bytes ++ tail) (c.copy_from_slice.ensures.after ∙ c.in-Some.ensures.joined) ∙ cut k tail in
    let whole_size = ap length c.in-Some.ensures.joined ∙ length_parts k in
    let name_size = ap length c.name.ensures in
    let new = lowered k.section (dotted k.subsection ++ dot ∷ []) k.name tail _ _ _ _ _ _ all
    (ap length c.section.ensures) (omega (arith, whole_size, name_size)) (omega (arith, whole_size, name_size))
    c.make_ascii_lowercase.ensures.after c.make_ascii_lowercase-2.ensures.after in
    put (listed k) (k, c.in-Some.ensures, refl)
    (whole (omega (arith, size, c.if-buffer-key.false))
    (new ∙ joined k tail ∙ ap (λ n. listed k ++ drop n c.args.buffer.now) (sym size)) (sym size) refl)
