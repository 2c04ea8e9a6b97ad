-- Laws of specs/Line.antt: texts written one behind the other, the line's length, and what printing answers. Assumes
-- nothing.
use native.Mathlib.Nat.{add-zero}
use mathlib.Core.Path.{◌≡◌, refl, sym, ap, ◌∙◌}
use mathlib.Core.List.{List, [], ◌∷◌, ◌++◌, append_assoc}
use Prim.Native.Nat.{ℕ, ◌+◌, ◌/◌, ◌%◌, ◌≤◌, ◌<◌}
use native.Mathlib.Numerals.{add-one}
use native.Mathlib.Omega.{arith}
use lib.ListN.{length, take, drop, set, length-append, length-drop, get_or, take-append-drop}
use lib.Seq.{take_at, drop_at, drop-drop, length-take-le, set_split, take-suc, take_all}
use borrow.Rule.Slice.PartMut.{put_mid}
use Rattle.judge.specs.declared.verdict.Counts.{Counts}
use Rattle.judge.specs.declared.verdict.Fault.{Fault}
use Rattle.judge.specs.declared.verdict.Verdict.{Verdict}
use Rattle.judge.specs.declared.verdict.Verdict.TheVariants.{Accepted, Refused}
use Rattle.judge.specs.Answer.{number_of, block_of, place_of}
use Rattle.judge.specs.Line.{digits_of, field_of, newline, three_fields, accepted_line, refused_line, line_of, Put, Room, pasted}
use Rattle.judge.specs.Line.{pasted, Room, Put}
use Rattle.judge.proofs.Answering.Digits.{digits-one, digits_more}

-- ---- a text written into a buffer

length-pasted : (b : List ℕ) (at : ℕ) (t : List ℕ) → at + length t ≤ length b → length (pasted b at t) ≡ length b
unfolding pasted
length-pasted b at t h =
    let front : length (take at b) ≡ at = length-take-le at b (omega arith) in
    rw (length-append, length-append, length-drop, front) (omega arith)

-- What stands before and behind a text that was written.
pasted-front : (b : List ℕ) (at : ℕ) (t : List ℕ) → at ≤ length b → take (at + length t) (pasted b at t) ≡ take at b ++ t
unfolding pasted
pasted-front b at t h =
    let front : length (take at b) ≡ at = length-take-le at b h in
    ap (take (at + length t)) (sym (append_assoc (take at b) t (drop (at + length t) b)))
    ∙ take_at (take at b ++ t) (drop (at + length t) b) (at + length t) (rw (length-append, front))

pasted-behind : (b : List ℕ) (at : ℕ) (t : List ℕ) (k : ℕ) → at ≤ length b
    → drop (at + length t + k) (pasted b at t) ≡ drop (at + length t + k) b
unfolding pasted
pasted-behind b at t k h =
    let front : length (take at b) ≡ at = length-take-le at b h in
    let whole : length (take at b ++ t) ≡ at + length t = rw (length-append, front) in
    sym (drop-drop k (at + length t) (pasted b at t))
    ∙ ap (drop k) (ap (drop (at + length t)) (sym (append_assoc (take at b) t (drop (at + length t) b)))
    ∙ drop_at (take at b ++ t) (drop (at + length t) b) (at + length t) whole)
    ∙ drop-drop k (at + length t) b

pasted-pasted : (b : List ℕ) (at : ℕ) (s t : List ℕ) → at ≤ length b
    → pasted (pasted b at s) (at + length s) t ≡ pasted b at (s ++ t)
unfolding pasted
pasted-pasted b at s t h =
    let sum : at + length s + length t ≡ at + length (s ++ t) = rw length-append (omega arith) in
    ap (λ (l : List ℕ). l ++ (t ++ drop (at + length s + length t) (pasted b at s))) (pasted-front b at s h)
    ∙ ap (λ (l : List ℕ). (take at b ++ s) ++ (t ++ l)) (pasted-behind b at s (length t) h)
    ∙ ap (λ (n : ℕ). (take at b ++ s) ++ (t ++ drop n b)) sum
    ∙ simp append_assoc

-- A store is a text of one byte.
pasted-byte : (b : List ℕ) (at x : ℕ) → at < length b → set b at x ≡ pasted b at (x ∷ [])
unfolding pasted
pasted-byte b at x h = set_split b at x h ∙ rw add-one

-- A part that holds the text is that text.
pub part-pasted : (b : List ℕ) (at k : ℕ) {t part : List ℕ} → part ≡ t → k ≡ length t → put_mid at k b part ≡ pasted b at t
unfolding pasted
part-pasted b at k {t} e f = rw (e, f, drop-drop (length t) at b)

-- ---- the loop of the code: none of the text, one byte more, and all of it

pub pasted-none : (b : List ℕ) (at : ℕ) → b ≡ pasted b at []
unfolding pasted
pasted-none b at = rw (add-zero at) (sym (take-append-drop at b))

module _ {b c t : List ℕ} {at i : ℕ} (begun : c ≡ pasted b at (take i t)) (room : Room b at t) where
  pub pasted-more : length c ≡ length b → i < length t → set c (at + i) (get_or t i 0) ≡ pasted b at (take (i + 1) t)
  pasted-more kept h =
      let x : List ℕ = get_or t i 0 ∷ [] in
      let fits = room.fits in
      let count : length (take i t) ≡ i = length-take-le i t (omega arith) in
      let stored = pasted-byte c (at + i) (get_or t i 0) (omega arith) in
      let behind = rw (count, ← begun) at (pasted-pasted b at (take i t) x (omega arith)) in
      let more : take i t ++ x ≡ take (i + 1) t = rw (add-one, take-suc t i 0 h) in
      stored ∙ behind ∙ ap (pasted b at) more

  pub put_all : length t ≤ i → Put b at t c (at + length t)
  put_all h = record { bytes = rw (take_all i t h) at begun; end = refl }

-- ---- one text behind another

-- One byte is a text.
pub put_byte : {b : List ℕ} {at x : ℕ} → at < length b → Put b at (x ∷ []) (set b at x) (at + 1)
put_byte {b} {at} {x} h = record { bytes = pasted-byte b at x h; end = refl }

module _ {b : List ℕ} {at : ℕ} where
  -- Room for two texts is room for the first.
  pub room-first : (s t : List ℕ) → Room b at (s ++ t) → Room b at s
  room-first s t r = record { fits = omega (arith, rw length-append at r.fits) }

  module _ {s b1 : List ℕ} {next : ℕ} (p : Put b at s b1 next) where
    -- Behind the first there is room for the second.
    pub room-rest : {t : List ℕ} → Room b at (s ++ t) → Room b1 next t
    room-rest {t} r =
        let all : at + (length s + length t) ≤ length b = rw length-append at r.fits in
        let kept : length b1 ≡ length b = ap length p.bytes ∙ length-pasted b at s (omega arith) in
        record { fits = omega (arith, p.end) }

    -- Two texts, one behind the other, are one.
    pub put_then : {t b2 : List ℕ} {end : ℕ} → Room b at (s ++ t) → Put b1 next t b2 end → Put b at (s ++ t) b2 end
    put_then {t} {b2} r q = record {
      bytes = q.bytes ∙ rw (p.bytes, p.end) (pasted-pasted b at s t (omega (arith, r.fits)));
      end = rw length-append (omega (arith, p.end, q.end));
    }

  -- ---- a number: one digit, or a last digit behind those of a tenth

  module _ {n : ℕ} (r : Room b at (digits_of n)) where
    pub room-digit : n < 10 → at < length b
    room-digit h = omega (arith, rw (digits-one n h) at r.fits)

    pub put-digit : n < 10 → Put b at (digits_of n) (set b at (48 + n)) (at + 1)
    put-digit h = rw (digits-one n h) (put_byte (room-digit h))

    module _ (h : 10 ≤ n) where
      split : Room b at (digits_of (n / 10) ++ ((48 + n % 10) ∷ []))
      split = rw (digits_more n h) at r

      pub room-tenth : Room b at (digits_of (n / 10))
      room-tenth = room-first _ _ split

      module _ {b1 : List ℕ} {last : ℕ} (p : Put b at (digits_of (n / 10)) b1 last) where
        pub room-last : last < length b1
        room-last = omega (arith, (room-rest p split).fits)

        pub put_last : Put b at (digits_of n) (set b1 last (48 + n % 10)) (last + 1)
        put_last = rw (digits_more n h) (put_then p split (put_byte room-last))

-- ---- the line

pub length-accepted : (c : Counts) {b s g a r : ℕ} → b ≡ length (digits_of c.blocks) → s ≡ length (digits_of c.secrets)
    → g ≡ length (digits_of c.goods) → a ≡ length (digits_of c.bads) → r ≡ length (digits_of c.rules)
    → 44 + b + s + g + a + r ≡ length (accepted_line c)
unfolding accepted_line three_fields field_of newline
length-accepted c p q u v w = simp length-append (omega arith)

pub length-refused : (x y z : ℕ) {n b p : ℕ} → n ≡ length (digits_of x) → b ≡ length (digits_of y) → p ≡ length (digits_of z)
    → 23 + n + b + p ≡ length (refused_line x y z)
unfolding refused_line three_fields field_of newline
length-refused x y z u v w = simp length-append (omega arith)

pub line-accepted : {v : Verdict} {c : Counts} → v ≡ Accepted c → line_of v ≡ accepted_line c
unfolding line_of
line-accepted e = rw e

pub line_refused : {v : Verdict} {f : Fault} {x y z : ℕ} → v ≡ Refused f → x ≡ number_of f → y ≡ block_of f → z ≡ place_of f
    → line_of v ≡ refused_line x y z
unfolding line_of
line_refused e n b p = rw (e, n, b, p)
