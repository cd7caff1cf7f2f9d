-- An attribute word adds its bits wherever it is, and adds nothing if it is repeated.
use Rattle.std.proofs.Common.{◌≡◌, ℕ, List, [], ◌∷◌, ◌++◌, ◌↔◌, sym, ap, ◌∙◌, arith}
use Rattle.std.specs.Int.RustNames.{bit_or}
use Rattle.std.proofs.lemmas.Nat.Bits.{bit_at_or, same_from_bits}
use Rattle.config_word.specs.declared.attribute.Attribute.{Attribute}
use Rattle.config_word.specs.declared.name.Name.{Name}
use Rattle.config_word.specs.Attribute.{AttributeText}
use Rattle.config_word.specs.Laws.Item.{not_both}
use Rattle.config_color.specs.declared.color.Color.{Color}
use Rattle.config_color.specs.Color.{WordsRead, ColorText}
use Rattle.config_color.specs.Composition.{Moves}
use Rattle.config_color.specs.Laws.Color.{one_attribute}
use Rattle.config_color.specs.Words.{Words}
use Rattle.config_color.specs.Laws.Split.{words_only}

or_swap : (a b c : ℕ) → bit_or a (bit_or b c) ≡ bit_or b (bit_or a c)
or_swap a b c = same_from_bits _ _ (λ i. simp bit_at_or (omega arith))

or_again : (a b : ℕ) → bit_or a (bit_or a b) ≡ bit_or a b
or_again a b = same_from_bits _ _ (λ i. simp bit_at_or (omega arith))

-- an attribute word that is inserted among words adds its bits
put_in : {w : List ℕ} {a : Attribute} (front back : List (List ℕ)) {names : List Name} {bits : ℕ}
    → AttributeText w a
    → WordsRead (front ++ back) names bits → WordsRead (front ++ w ∷ back) names (bit_or a.0 bits)
put_in [] back t r = WordsRead.attribute t r
put_in (x ∷ front) back t (WordsRead.name u r) = WordsRead.name u (put_in front back t r)
put_in (x ∷ front) back t (WordsRead.attribute u r) =
    rw or_swap (WordsRead.attribute u (put_in front back t r))

-- without an attribute word the other words are read; its bits and theirs are all bits
taken_out : (w : List ℕ) (a : Attribute) (front back : List (List ℕ)) {names : List Name} {bits : ℕ}
    → AttributeText w a
    → WordsRead (front ++ w ∷ back) names bits
    → (rest : ℕ) × WordsRead (front ++ back) names rest × (bits ≡ bit_or a.0 rest)
taken_out w a [] back t (WordsRead.name {n = n} u r) = absurd (not_both w n a u t)
taken_out w a [] back t (WordsRead.attribute {a = b} {bits = more} u r) =
    (more, r, ap (λ b. bit_or b.0 more) (one_attribute w b a u t))
taken_out w a (x ∷ front) back t (WordsRead.name u r) =
    let o = taken_out w a front back t r in (o.0, WordsRead.name u o.1, o.2)
taken_out w a (x ∷ front) back t (WordsRead.attribute {a = b} u r) =
    let o = taken_out w a front back t r in
    (bit_or b.0 o.0, WordsRead.attribute u o.1, ap (λ i. bit_or b.0 i) o.2 ∙ or_swap b.0 a.0 o.0)

-- words with an attribute word at another place are read the same
moved_reads : (w : List ℕ) (a : Attribute) (front back ahead behind : List (List ℕ)) (names : List Name)
    (bits : ℕ) → AttributeText w a
    → front ++ back ≡ ahead ++ behind → WordsRead (front ++ w ∷ back) names bits
    → WordsRead (ahead ++ w ∷ behind) names bits
moved_reads w a front back ahead behind names bits t e r =
    let o = taken_out w a front back t r in rw o.2 (put_in ahead behind t (rw e at o.1))

-- words with one of their attribute words once more are read the same
again_reads : (w : List ℕ) (a : Attribute) (ws front back ahead behind : List (List ℕ)) (names : List Name)
    (bits : ℕ) → AttributeText w a
    → ws ≡ front ++ w ∷ back → ws ≡ ahead ++ behind → WordsRead ws names bits
    → WordsRead (ahead ++ w ∷ behind) names bits
again_reads w a ws front back ahead behind names bits t e f r =
    let o = taken_out w a front back t (rw e at r) in
    let same : bits ≡ bit_or a.0 bits = rw (o.2, or_again) in rw same (put_in ahead behind t (rw f at r))

-- words are read the same without an attribute word that they have once more
once_reads : (w : List ℕ) (a : Attribute) (ws front back ahead behind : List (List ℕ)) (names : List Name)
    (bits : ℕ) → AttributeText w a
    → ws ≡ front ++ w ∷ back → ws ≡ ahead ++ behind → WordsRead (ahead ++ w ∷ behind) names bits
    → WordsRead ws names bits
once_reads w a ws front back ahead behind names bits t e f r =
    let o = taken_out w a ahead behind t r in
    let read : WordsRead ws names o.0 = rw f o.1 in
    let p = taken_out w a front back t (rw e at read) in
    let same : bit_or a.0 o.0 ≡ o.0 = rw (p.2, or_again) in rw (o.2 ∙ same) read

-- words are read the same if an attribute word is moved or repeated
moves_read : (ws vs : List (List ℕ)) (names : List Name) (bits : ℕ) → Moves ws vs
    → (WordsRead ws names bits) ↔ (WordsRead vs names bits)
moves_read ws vs names bits (Moves.moved w front back ahead behind (a, p) e f same) = (
  λ r. rw f (moved_reads w a front back ahead behind names bits p same (rw e at r)),
  λ r. rw e (moved_reads w a ahead behind front back names bits p (sym same) (rw f at r)),
)
moves_read ws vs names bits (Moves.repeated w front back ahead behind (a, p) e f same) = (
  λ r. rw f (again_reads w a ws front back ahead behind names bits p e same r),
  λ r. once_reads w a ws front back ahead behind names bits p e same (rw f at r),
)

-- texts with such words have the same color
pub moved_words : (t u : List ℕ) (ws vs : List (List ℕ)) (c : Color) → Words t ws → Words u vs → Moves ws vs
    → (ColorText t c) ↔ (ColorText u c)
moved_words t u ws vs c w v m = (
  carried t u ws vs w v (λ names. (moves_read ws vs names c.attributes.0 m).0),
  carried u t vs ws v w (λ names. (moves_read ws vs names c.attributes.0 m).1),
) where
  carried : (t u : List ℕ) (ws vs : List (List ℕ)) → Words t ws → Words u vs
      → ((names : List Name) → WordsRead ws names c.attributes.0 → WordsRead vs names c.attributes.0)
      → ColorText t c → ColorText u c
  carried t u ws vs w v reads h =
      let read = rw (words_only h.read.cut ∙ sym (words_only w)) at h.read.read in
      record {
        names = h.names;
        read = record { words = vs; cut = v; read = reads h.names read };
        placed = h.placed;
      }
