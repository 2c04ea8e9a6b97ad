-- What an answer says, and decisions put together. All of these compute.
use Rattle.std.specs.Prelude.{Bool, true, false, ◌⊎◌}
use Rattle.std.proofs.Common.{inl, inr}

-- One of two, by an answer.
abbrev pub pick : {A : Type 0} → Bool → A → A → A
pick true x y = x
pick false x y = y

-- An answer says that the claim holds, or that it does not.
abbrev pub Says : Bool → Type 0 → Type 0
Says true P = P
Says false P = ¬ P

-- A true answer is a decision.
abbrev pub decided : {P : Type 0} (b : Bool) → Says b P → Dec P
decided true p = yes p
decided false n = no n

-- Claims that follow from each other are answered alike.
pub says_same : {P Q : Type 0} (b : Bool) → (P → Q) → (Q → P) → Says b P → Says b Q
says_same true f g p = f p
says_same false f g n = λ q. n (g q)

-- Decisions put together: the second question is asked only if the first leaves it open.
unfoldable pub dec_map : {A B : Type 0} → (A → B) → (B → A) → Dec A → Dec B
dec_map f g (yes a) = yes (f a)
dec_map f g (no n) = no (λ b. n (g b))

unfoldable pub dec_not : {A : Type 0} → Dec A → Dec (A → ⊥)
dec_not (yes a) = no (λ n. n a)
dec_not (no n) = yes n

unfoldable pub dec_and : {A B : Type 0} → Dec A → (A → Dec B) → Dec (A × B)
unfolding dec_map
dec_and (yes a) d = dec_map (λ b. (a, b)) (λ w. w.1) (d a)
dec_and (no n) d = no (λ w. n w.0)

unfoldable pub dec_or : {A B : Type 0} → Dec A → ((A → ⊥) → Dec B) → Dec (A ⊎ B)
dec_or (yes a) d = yes (inl a)
dec_or {A} {B} (no n) d = second (d n)
  where
    neither : (B → ⊥) → A ⊎ B → ⊥
    neither m (inl a) = n a
    neither m (inr b) = m b

    second : Dec B → Dec (A ⊎ B)
    second (yes b) = yes (inr b)
    second (no m) = no (neither m)

unfoldable pub dec_implies : {A B : Type 0} → Dec A → (A → Dec B) → Dec (A → B)
unfolding dec_map
dec_implies (yes a) d = dec_map (λ b a'. b) (λ f. f a) (d a)
dec_implies (no n) d = yes (λ a. absurd (n a))

-- Everything that satisfies Q satisfies P, if nothing that satisfies Q fails it.
unfoldable pub dec_all : {A : Type 0} {Q P : A → Type 0} → ((a : A) → Dec (P a)) → Dec ((a : A) × Q a × (P a → ⊥)) →
    Dec ((a : A) → Q a → P a)
dec_all {A} {Q} {P} d (yes w) = no (λ every. w.2 (every w.0 w.1))
dec_all {A} {Q} {P} d (no none') = yes (λ a q. decided a q (d a))
  where
    decided : (a : A) → Q a → Dec (P a) → P a
    decided a q (yes x) = x
    decided a q (no n) = absurd (none' (a, q, n))
