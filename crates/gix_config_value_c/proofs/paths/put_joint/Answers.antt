use Rattle.std.proofs.Common.{◌≡◌, ℕ, ◌+◌, ◌≤◌, List, [], ◌++◌, length, take, drop, codes, Option}
use Rattle.std.proofs.Common.{refl, sym, ◌∙◌, arith, if◌then◌else◌}
use Rattle.std.specs.Option.{option_map_or, unwrap_or}
use denote.Ref.{Bor}
use Rattle.config_path.specs.declared.parts.Joint.{Joint}
use Rattle.config_path.specs.Parts.{joint_text}
use Rattle.gix_config_value.specs.Interpolation.PathResult.{text as whole_text}
use Rattle.std.proofs.lemmas.List.{take-append-drop, length-append}
use Rattle.gix_config_value_c.specs.Buffers.PutsText.{whole, short}
use Rattle.gix_config_value_c.specs.Paths.PutsPath.{put, too_long}
use Rattle.gix_config_value_c.proofs.paths.put_joint.Goals as goal

length_of : (a b c : List ℕ) → length (a ++ b ++ c) ≡ length a + length b + length c
length_of a b c = grind (arith, length-append)

filled : (dir slash rest old one two new : List ℕ) (first second end : ℕ)
    → first ≡ 0 + length dir → take first one ≡ take 0 old ++ dir → ((n : ℕ) → first ≤ n
    → drop n one ≡ drop n old)
    → second ≡ first + length slash → take second two ≡ take first one ++ slash → ((n : ℕ) → second ≤ n
    → drop n two ≡ drop n one)
    → end ≡ second + length rest → take end new ≡ take second two ++ rest → ((n : ℕ) → end ≤ n
    → drop n new ≡ drop n two)
    → new ≡ (dir ++ slash ++ rest) ++ drop (length (dir ++ slash ++ rest)) old
filled dir slash rest old one two new first second end e f k e' f' k' e'' f'' k'' =
    let size : end ≡ length (dir ++ slash ++ rest) = omega (arith, length_of dir slash rest) in
    let front : take end new ≡ dir ++ slash ++ rest = rw (f'', f', f) refl in
    let behind : drop end new ≡ drop end old =
    k'' end (omega arith) ∙ k' end (omega arith) ∙ k end (omega arith) in
    sym (take-append-drop end new) ∙ rw (front, behind, size) refl

dir_bytes : (o : Option (Bor (List ℕ))) (given dir : Bor (List ℕ)) → dir ≡ unwrap_or o given → given.now ≡ []
    → option_map_or (λ d. d.now) o [] ≡ dir.now
dir_bytes o given dir e n = grind arith

is_text : (joint : Joint (Bor (List ℕ))) (given dir : Bor (List ℕ)) (slash shown rest : List ℕ)
    → dir ≡ unwrap_or joint.dir given → given.now ≡ [] → slash ≡ shown
    → shown ≡ (if joint.has_slash then codes "/" else []) → rest ≡ joint.rest.now
    → whole_text (joint_text (λ d. d.now) joint) ≡ whole_text (dir.now ++ slash ++ rest)
is_text joint given dir slash shown rest e n s t r = rw (s, t, r, ← dir_bytes joint.dir given dir e n) refl

pub returns-then-size-gt-LONGEST_BLOCK : goal.returns-then-size-gt-LONGEST_BLOCK
returns-then-size-gt-LONGEST_BLOCK c = λ fault.
    let size = length_of c.unwrap_or-dir.result.now c.as_bytes-slash.result.now c.as_bytes-rest.result.now in
    too_long _
    (is_text c.args.joint _ _ _ _ _ c.unwrap_or-dir.ensures refl c.as_bytes-slash.ensures.value
    c.slash.ensures c.as_bytes-rest.ensures.value)
    (omega (arith, size, c.if-size-gt-LONGEST_BLOCK.true)) (refl, refl, refl) refl

pub returns-then-buffer-size : goal.returns-then-buffer-size
returns-then-buffer-size c = λ fault.
    let size = length_of c.unwrap_or-dir.result.now c.as_bytes-slash.result.now c.as_bytes-rest.result.now in
    put _
    (is_text c.args.joint _ _ _ _ _ c.unwrap_or-dir.ensures refl c.as_bytes-slash.ensures.value
    c.slash.ensures c.as_bytes-rest.ensures.value)
    (omega (arith, size, c.if-size-gt-LONGEST_BLOCK.false))
    (short (omega arith) refl (sym size) refl) refl

pub returns : goal.returns
returns c = λ fault.
    let size = length_of c.unwrap_or-dir.result.now c.as_bytes-slash.result.now c.as_bytes-rest.result.now in
    put _
    (is_text c.args.joint _ _ _ _ _ c.unwrap_or-dir.ensures refl c.as_bytes-slash.ensures.value
    c.slash.ensures c.as_bytes-rest.ensures.value)
    (omega (arith, size, c.if-size-gt-LONGEST_BLOCK.false))
    (whole (omega arith)
    (filled _ _ _ _ c.push-at.new.buffer c.push-at-2.new.buffer _ c.push-at.result c.push-at-2.result
    c.push.result c.push-at.ensures.end c.push-at.ensures.front c.push-at.ensures.behind
    c.push-at-2.ensures.end c.push-at-2.ensures.front c.push-at-2.ensures.behind c.push.ensures.end
    c.push.ensures.front c.push.ensures.behind)
    (sym size) refl) refl
