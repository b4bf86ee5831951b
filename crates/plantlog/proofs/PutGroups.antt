-- A number written group by group.
use Rattle.std.proofs.Common.{◌≡◌, ℕ, zero, suc, ◌+◌, ◌-◌, ◌/◌, ◌%◌, ◌^◌, ◌<◌, ◌≤◌, List, [], ◌∷◌, ◌++◌, length, take, drop, set, sym, refl, ap, ◌∙◌, subst, ⊎_elim, append_assoc, add-one, arith, take-suc-set}
use lib.Seq.{set_split}
use Rattle.std.proofs.lemmas.List.{length-append, length-drop, take_all, take_at}
use Rattle.std.proofs.lemmas.Slice.{drop-append-drop}
use Rattle.std.proofs.lemmas.Bool.{lt-ltb, le-ltb, cases_lt}
use Rattle.plantlog.specs.Numbers.{groups, number_bytes}
use Rattle.plantlog.specs.NumberLimits.{limit}
use Rattle.plantlog.proofs.Groups.{groups_some}

-- i groups of n are written at the front of out, last + 1 are to be, and rest is what is left of n
pub record Sofar (n last i rest : ℕ) (out : List ℕ) : Type 0 where
  pub front : take i out ++ groups (4 - i) rest ≡ number_bytes n
  pub left : length (groups (4 - i) rest) ≡ suc (last - i)
  pub low : rest < limit (4 - i)

-- one group more, where m may come after it
one_more : (m c rest : ℕ) → length (groups (suc m) rest) ≡ suc (suc c) → rest < limit (suc m) → (groups (suc m) rest ≡ (rest % 128 + 128) ∷ groups m (rest / 128)) × (length (groups m (rest / 128)) ≡ suc c) × (rest / 128 < limit m)
one_more m c rest long low =
    ⊎_elim
    (λ small. let a = lt-ltb rest 128 small in let z = rw a at long in absurd (omega (arith, z)))
    (λ big. let a = le-ltb rest 128 big in let z = rw a at long in (rw a refl, omega (arith, z), omega arith))
    (cases_lt rest 128)

the_last : (m rest : ℕ) → length (groups m rest) ≡ 1 → rest < limit m → (groups m rest ≡ rest ∷ []) × (rest < 128)
the_last zero rest long low = (refl, omega arith)
the_last (suc m) rest long low =
    ⊎_elim
    (λ small. let a = lt-ltb rest 128 small in (rw a refl, small))
    (λ big. let a = le-ltb rest 128 big in let z = rw a at long in absurd (omega (arith, z, groups_some m (rest / 128))))
    (cases_lt rest 128)

pub sofar_start : (n last : ℕ) (out : List ℕ) → last ≡ length (number_bytes n) - 1 → n < 2 ^ 32 → Sofar n last 0 n out
unfolding number_bytes
sofar_start n last out e h = record { front = refl; left = omega (arith, e, groups_some 4 n); low = h }

pub sofar_more : (n last i rest : ℕ) (out : List ℕ) → i < last → last ≤ 4 → i < length out → Sofar n last i rest out → Sofar n last (i + 1) (rest / 128) (set out i (rest % 128 + 128))
sofar_more n last i rest out h k l s =
    let e : 4 - i ≡ suc (3 - i) = omega arith in
    let e1 : 4 - (i + 1) ≡ 3 - i = omega arith in
    let long : length (groups (suc (3 - i)) rest) ≡ suc (suc (last - (i + 1))) = ap (λ (g : ℕ). length (groups g rest)) (sym e) ∙ s.left ∙ omega arith in
    let low : rest < limit (suc (3 - i)) = subst (λ (g : ℕ). rest < limit g) e s.low in
    let t1 = ap (λ (g : ℕ). take g (set out i (rest % 128 + 128))) (add-one i) ∙ take-suc-set out i (rest % 128 + 128) l in
    let enc = ap (λ (g : ℕ). groups g (rest / 128)) e1 in
    let o = one_more (3 - i) (last - (i + 1)) rest long low in
    record {
      front = (λ j. t1 j ++ enc j) ∙ append_assoc (take i out) ((rest % 128 + 128) ∷ []) (groups (3 - i) (rest / 128)) ∙ ap (λ (r : List ℕ). take i out ++ r) (sym (ap (λ (g : ℕ). groups g rest) e ∙ o.0)) ∙ s.front;
      left = ap (λ (g : ℕ). length (groups g (rest / 128))) e1 ∙ o.1;
      low = subst (λ (g : ℕ). rest / 128 < limit g) (sym e1) o.2;
    }

last_one : (n last rest : ℕ) (out : List ℕ) → Sofar n last last rest out → (groups (4 - last) rest ≡ rest ∷ []) × (rest < 128)
last_one n last rest out s = the_last (4 - last) rest (s.left ∙ omega arith) s.low

pub sofar_low : (n last i rest : ℕ) (out : List ℕ) → i ≡ last → Sofar n last i rest out → rest < 128
sofar_low n last i rest out e s = (last_one n last rest out (subst (λ j. Sofar n last j rest out) e s)).1

-- the last group behind the others
pub sofar_done : (n last i rest : ℕ) (out old : List ℕ) → i ≡ last → last + 1 ≡ length (number_bytes n) → length out ≡ last → last < length old → Sofar n last i rest out → set (out ++ drop last old) last rest ≡ number_bytes n ++ drop (length (number_bytes n)) old
sofar_done n last i rest out old end long same room s0 =
    let s = subst (λ j. Sofar n last j rest out) end s0 in
    let t = last_one n last rest out s in
    let whole : out ++ (rest ∷ []) ≡ number_bytes n = (λ j. sym (take_all last out (omega (arith, same))) j ++ sym t.0 j) ∙ s.front in
    let behind : drop (suc last) (out ++ drop last old) ≡ drop (length (number_bytes n)) old = drop-append-drop last old out (suc last) (omega arith) same ∙ ap (λ k. drop k old) (sym (add-one last) ∙ long) in
    set_split (out ++ drop last old) last rest (omega (arith, length-append out (drop last old), length-drop last old, same))
    ∙ (λ j. take_at out (drop last old) last same j ++ rest ∷ behind j)
    ∙ sym (append_assoc out (rest ∷ []) (drop (length (number_bytes n)) old))
    ∙ ap (λ l. l ++ drop (length (number_bytes n)) old) whole
