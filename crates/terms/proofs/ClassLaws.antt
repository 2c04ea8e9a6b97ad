-- Laws of uniting two classes, branch by branch: i's class is named a, j's class b.
use mathlib.Core.Path.{◌≡◌, refl, sym, ap, ap₂, ◌∙◌, subst}
use mathlib.Core.Bool.{Bool, true, false, true≢false}
use mathlib.Core.List.{List}
use Prim.Native.Nat.{ℕ, ◌<◌}
use native.Mathlib.Omega.{arith}
use Rattle.terms.specs.Term.{variable, atom, pair, Message, wrapped}
use Rattle.terms.specs.Tag.{atom_tag, pair_tag, WrapperTag, Tagged, an_atom, a_pair, a_wrapping, a_variable, no_tag, tagged, free_by, free_tag}
use Rattle.terms.specs.Solve.{form}
use Rattle.terms.specs.Graph.{atom_node, pair_node, wrapper_node, IsSymbol, made, Valid, Classes, ClassStep, Clash, Outcome, Any}
use Rattle.terms.specs.TermGraph.{variable_nodes, node_for, node_by, node_tag, node_value, first_child, second_child, node_of, AtHome}
use Rattle.terms.specs.Meeting.{Symbols}
use Rattle.terms.proofs.GraphLaws.{merge, stay, done, already, united, united-clash, apart-clash, united-classes}
use Rattle.terms.proofs.NodeLaws.{node-by, wrapper-node, not-symbol, symbol-tag, is-symbol, home-symbol}

-- The number in a message: its root's value as an entry.
unfoldable pub number : Message → ℕ
number (variable x) = 0
number (atom a) = a
number (pair m n) = 0
number (wrapped w k m) = k

pub made-form : (v : ℕ → Message) (n x l r : ℕ) → free_tag n ≡ false → form (made v (node_by n x l r)) ≡ n
unfolding form made node_by free_tag
made-form v n x l r f = go (tagged n) f
  where
    go : (w : Tagged n) → free_by w ≡ false → form (made v (node_for w x l r)) ≡ n
    go (an_atom e) f = sym e
    go (a_pair e) f = sym e
    go (a_wrapping w e) f = sym e
    go (a_variable s e) f = absurd (true≢false f)
    go (no_tag e) f = absurd (true≢false f)

pub made-number : (v : ℕ → Message) (n x l r : ℕ) → free_tag n ≡ false → (n ≡ pair_tag → ⊥) → number (made v (node_by n x l r)) ≡ x
unfolding number made node_by free_tag
made-number v n x l r f off = go (tagged n) f
  where
    go : (w : Tagged n) → free_by w ≡ false → number (made v (node_for w x l r)) ≡ x
    go (an_atom e) f = refl
    go (a_pair e) f = absurd (off e)
    go (a_wrapping w e) f = refl
    go (a_variable s e) f = absurd (true≢false f)
    go (no_tag e) f = absurd (true≢false f)

pub only-atom : (n : ℕ) → free_tag n ≡ false → (n ≡ pair_tag → ⊥) → ¬ WrapperTag n → n ≡ atom_tag
unfolding free_tag
only-atom n f no-pair no-wrapper = go (tagged n) f
  where
    go : (w : Tagged n) → free_by w ≡ false → n ≡ atom_tag
    go (an_atom e) f = e
    go (a_pair e) f = absurd (no-pair e)
    go (a_wrapping w e) f = absurd (no-wrapper (record { wrapping = w; is = e }))
    go (a_variable s e) f = absurd (true≢false f)
    go (no_tag e) f = absurd (true≢false f)

module _ (s t : List ℕ) (name : ℕ → ℕ) (cs : Classes (node_of s t) name) (i j : ℕ) {a b : ℕ} (ea : a ≡ name i) (eb : b ≡ name j) where
  -- The step of united classes, said of a and b.
  as-named : {next : ℕ → ℕ} {P : (ℕ → Message) → Type 0} {r : Bool} → ((v : ℕ → Message) → Valid (node_of s t) v → v a ≡ v b → P v)
      → ((v : ℕ → Message) → P v → IsSymbol (node_of s t a) → made v (node_of s t a) ≡ made v (node_of s t b))
      → Outcome (node_of s t) Any (merge a b name) next P r → Outcome (node_of s t) Any name next (λ v. v i ≡ v j) r
  as-named {next} {P} {r} needed enough o = record {
    stepped = λ e. united (node_of s t) name cs i j wanted
        (λ v p is. ap (λ (n : ℕ). made v (node_of s t n)) (sym ea) ∙ enough v p (subst (λ (n : ℕ). IsSymbol (node_of s t n)) (sym ea) is)
        ∙ ap (λ (n : ℕ). made v (node_of s t n)) eb)
        (subst (λ (f : ℕ → ℕ). ClassStep (node_of s t) Any f next P) one (o.stepped e));
    clashed = λ e. united-clash (node_of s t) name cs i j wanted (subst (λ (f : ℕ → ℕ). Clash (node_of s t) f P) one (o.clashed e));
  }
    where
      one : merge a b name ≡ merge (name i) (name j) name
      one = ap₂ (λ (x y : ℕ). merge x y name) ea eb

      wanted : (v : ℕ → Message) → Valid (node_of s t) v → v (name i) ≡ v (name j) → P v
      wanted v x e = needed v x (ap v ea ∙ e ∙ ap v (sym eb))

  merged-names : (a ≡ b → ⊥) → (IsSymbol (node_of s t a) → IsSymbol (node_of s t b)) → Classes (node_of s t) (merge a b name)
  merged-names apart keeps =
      subst (λ (f : ℕ → ℕ). Classes (node_of s t) f) (ap₂ (λ (x y : ℕ). merge x y name) (sym ea) (sym eb))
      (united-classes (node_of s t) name cs i j (λ e. apart (ea ∙ e ∙ sym eb))
      (λ is. subst (λ (n : ℕ). IsSymbol (node_of s t n)) eb (keeps (subst (λ (n : ℕ). IsSymbol (node_of s t n)) (sym ea) is))))

  pub one_class : a ≡ b → ClassStep (node_of s t) Any name name (λ v. v i ≡ v j)
  one_class e = already (node_of s t) name cs i j (sym ea ∙ e ∙ eb)

  pub free-class : (a ≡ b → ⊥) → free_tag (node_tag s t a) ≡ true → ClassStep (node_of s t) Any name (merge a b name) (λ v. v i ≡ v j)
  free-class apart f =
      (as-named (λ v x e. tt) (λ v p is. absurd (not-symbol s t a f is))
      (done (stay (node_of s t) Any (merged-names apart (λ is. absurd (not-symbol s t a f is)))))).stepped refl

  -- Both names are symbol nodes from here on.
  module _ (fa : free_tag (node_tag s t a) ≡ false) (fb : free_tag (node_tag s t b) ≡ false) where
    gives : (v : ℕ → Message) → Valid (node_of s t) v → (n : ℕ) → free_tag (node_tag s t n) ≡ false → v n ≡ made v (node_of s t n)
    gives v x n f = x.makes n (is-symbol s t n f)

    both-make : (v : ℕ → Message) → Valid (node_of s t) v → v a ≡ v b → made v (node_of s t a) ≡ made v (node_of s t b)
    both-make v x e = sym (gives v x a fa) ∙ e ∙ gives v x b fb

    symbols-merge : (a ≡ b → ⊥) → Classes (node_of s t) (merge a b name)
    symbols-merge apart = merged-names apart (λ is. is-symbol s t b fb)

    apart-names : ((v : ℕ → Message) → Valid (node_of s t) v → v a ≡ v b → ⊥) → Clash (node_of s t) name (λ v. v i ≡ v j)
    apart-names never = apart-clash (node_of s t) name cs i j (λ v x e. never v x (ap v ea ∙ e ∙ ap v (sym eb)))

    pub tags-clash : (node_tag s t a ≡ node_tag s t b → ⊥) → Clash (node_of s t) name (λ v. v i ≡ v j)
    unfolding node_of
    tags-clash off = apart-names (λ v x e. off
        (sym (made-form v (node_tag s t a) (node_value s t a) (first_child s t a) (second_child s t a) fa)
        ∙ ap form (both-make v x e)
        ∙ made-form v (node_tag s t b) (node_value s t b) (first_child s t b) (second_child s t b) fb))

    module _ (tags : node_tag s t a ≡ node_tag s t b) where
      pub values-clash : (node_tag s t a ≡ pair_tag → ⊥) → (node_value s t a ≡ node_value s t b → ⊥) → Clash (node_of s t) name (λ v. v i ≡ v j)
      unfolding node_of
      values-clash not-pair off = apart-names (λ v x e. off
          (sym (made-number v (node_tag s t a) (node_value s t a) (first_child s t a) (second_child s t a) fa not-pair)
          ∙ ap number (both-make v x e)
          ∙ made-number v (node_tag s t b) (node_value s t b) (first_child s t b) (second_child s t b) fb (λ p. not-pair (tags ∙ p))))

      pub equal-atoms : (a ≡ b → ⊥) → (node_tag s t a ≡ pair_tag → ⊥) → ¬ WrapperTag (node_tag s t a) → node_value s t a ≡ node_value s t b
          → ClassStep (node_of s t) Any name (merge a b name) (λ v. v i ≡ v j)
      unfolding node_by
      equal-atoms apart not-pair no-wrapper same =
          let one = only-atom (node_tag s t a) fa not-pair no-wrapper in
          let first : node_of s t a ≡ atom_node (node_value s t a) = node-by s t a one in
          let second : node_of s t b ≡ atom_node (node_value s t b) = node-by s t b (sym tags ∙ one) in
          (as-named (λ v x e. tt) (λ v p is. ap (made v) (first ∙ ap atom_node same ∙ sym second))
          (done (stay (node_of s t) Any (symbols-merge apart)))).stepped refl

      pub equal-wrappers : {next : ℕ → ℕ} {r : Bool} → WrapperTag (node_tag s t a) → node_value s t a ≡ node_value s t b
          → Outcome (node_of s t) Any (merge a b name) next (λ v. v (first_child s t a) ≡ v (first_child s t b)) r
          → Outcome (node_of s t) Any name next (λ v. v i ≡ v j) r
      unfolding made
      equal-wrappers one same o =
          let w = one.wrapping in
          let first : node_of s t a ≡ wrapper_node w (node_value s t a) (first_child s t a) = wrapper-node s t a w one.is in
          let second : node_of s t b ≡ wrapper_node w (node_value s t b) (first_child s t b) = wrapper-node s t b w (sym tags ∙ one.is) in
          as-named
          (λ v x e. let q : wrapped w (node_value s t a) (v (first_child s t a)) ≡ wrapped w (node_value s t b) (v (first_child s t b)) =
          sym (ap (made v) first) ∙ both-make v x e ∙ ap (made v) second in cc)
          (λ v p is. ap (made v) first ∙ ap₂ (wrapped w) same p ∙ sym (ap (made v) second)) o

      pub equal-pairs : {next : ℕ → ℕ} {r : Bool} → node_tag s t a ≡ pair_tag
          → Outcome (node_of s t) Any (merge a b name) next
          (λ v. (v (first_child s t a) ≡ v (first_child s t b)) × (v (second_child s t a) ≡ v (second_child s t b))) r
          → Outcome (node_of s t) Any name next (λ v. v i ≡ v j) r
      unfolding node_by made
      equal-pairs two o =
          let first : node_of s t a ≡ pair_node (first_child s t a) (second_child s t a) = node-by s t a two in
          let second : node_of s t b ≡ pair_node (first_child s t b) (second_child s t b) = node-by s t b (sym tags ∙ two) in
          as-named
          (λ v x e. let q : pair (v (first_child s t a)) (v (second_child s t a)) ≡ pair (v (first_child s t b)) (v (second_child s t b)) =
          sym (ap (made v) first) ∙ both-make v x e ∙ ap (made v) second in (cc, cc))
          (λ v p is. ap (made v) first ∙ ap₂ pair p.0 p.1 ∙ sym (ap (made v) second)) o

-- Where a is no variable's node, neither is b.
pub both-symbols : {s t : List ℕ} {a b : ℕ} → AtHome s t a → AtHome s t b → b < a → a < variable_nodes → Symbols s t a b
both-symbols {s} {t} {a} {b} first second above low =
    record { left = symbol-tag s t a (home-symbol first low); right = symbol-tag s t b (home-symbol second (omega arith)) }
