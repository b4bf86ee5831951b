-- Sums over all sequences of classes.
use Rattle.std.proofs.Common.{◌≡◌, ℕ, zero, suc, ◌+◌, ◌*◌, List, [], ◌∷◌, map, length, replicate, get_or, sym, refl, ap, ◌∙◌, add-zero, mul_assoc, mul-zero, mul-add, arith}
use Rattle.std.specs.List.{flat_map, range_with_len, sum, sum_by}
use Rattle.std.proofs.lemmas.List.{length-replicate}
use Rattle.std.proofs.lemmas.List.Sums.{sum_by-cons, sum_by-append}
use Rattle.edetector.specs.Lemmas.Sums.{weigh, weigh_add, weigh_scale}
use Rattle.edetector.specs.Plans.{weight_of, sequences}
use Rattle.edetector.proofs.Weighing.{weigh_same, weigh_const}

-- the sum over all sequences of the sequence's weight × f, table by table
abbrev pub over_all : List (List ℕ) → (List ℕ → ℕ) → ℕ
over_all [] f = f []
over_all (ws ∷ tables) f = weigh ws 0 (λ k. over_all tables (λ ks. f (k ∷ ks)))

-- the weight of all sequences together
abbrev pub mass : List (List ℕ) → ℕ
mass tables = over_all tables (λ ks. 1)

pub over_none : (tables : List (List ℕ)) → over_all tables (λ ks. 0) ≡ 0
over_none [] = refl
over_none (ws ∷ tables) = weigh_same ws 0 (λ k. over_all tables (λ ks. 0)) (λ k. 0) (λ k. over_none tables) ∙ weigh_const ws 0 0 ∙ mul-zero (sum ws)

pub over_same : (tables : List (List ℕ)) (f g : List ℕ → ℕ) → ((ks : List ℕ) → f ks ≡ g ks) → over_all tables f ≡ over_all tables g
over_same [] f g h = h []
over_same (ws ∷ tables) f g h =
    weigh_same ws 0 (λ k. over_all tables (λ ks. f (k ∷ ks))) (λ k. over_all tables (λ ks. g (k ∷ ks))) (λ k. over_same tables (λ ks. f (k ∷ ks)) (λ ks. g (k ∷ ks)) (λ ks. h (k ∷ ks)))

pub over_plus : (tables : List (List ℕ)) (c : ℕ) (f : List ℕ → ℕ) → over_all tables (λ ks. c + f ks) ≡ c * mass tables + over_all tables f
over_plus [] c f = omega arith
over_plus (ws ∷ tables) c f =
    weigh_same ws 0 (λ k. over_all tables (λ ks. c + f (k ∷ ks))) (λ k. c * mass tables + over_all tables (λ ks. f (k ∷ ks))) (λ k. over_plus tables c (λ ks. f (k ∷ ks)))
    ∙ weigh_add ws 0 (λ k. c * mass tables) (λ k. over_all tables (λ ks. f (k ∷ ks)))
    ∙ ap (λ n. n + over_all (ws ∷ tables) f) (weigh_scale ws 0 c (λ k. mass tables))

pub mass_more : (ws : List ℕ) (tables : List (List ℕ)) → mass (ws ∷ tables) ≡ sum ws * mass tables
mass_more ws tables = weigh_const ws 0 (mass tables)

sum_joined : {X Y : Type 0} (f : Y → ℕ) (g : X → List Y) (xs : List X) → sum_by f (flat_map g xs) ≡ sum_by (λ x. sum_by f (g x)) xs
sum_joined f g [] = refl
sum_joined f g (x ∷ xs) =
    sum_by-append f (g x) (flat_map g xs) ∙ ap (λ n. sum_by f (g x) + n) (sum_joined f g xs) ∙ sym (sum_by-cons (λ x. sum_by f (g x)) x xs)

sum_same : {X : Type 0} (f g : X → ℕ) (xs : List X) → ((x : X) → f x ≡ g x) → sum_by f xs ≡ sum_by g xs
sum_same f g [] h = refl
sum_same f g (x ∷ xs) h = omega (arith, h x, sum_same f g xs h, sum_by-cons f x xs, sum_by-cons g x xs)

-- the sequences that begin with k
sum_begun : (ws : List ℕ) (tables : List (List ℕ)) (f : List ℕ → ℕ) (k : ℕ) (xs : List (List ℕ)) →
    sum_by (λ ks. weight_of (ws ∷ tables) ks * f ks) (map (λ ks. k ∷ ks) xs) ≡ get_or ws k 0 * sum_by (λ ks. weight_of tables ks * f (k ∷ ks)) xs
sum_begun ws tables f k [] = sym (mul-zero (get_or ws k 0))
sum_begun ws tables f k (x ∷ xs) =
    let all : List ℕ → ℕ = λ ks. weight_of (ws ∷ tables) ks * f ks in
    let rest : List ℕ → ℕ = λ ks. weight_of tables ks * f (k ∷ ks) in
    sum_by-cons all (k ∷ x) (map (λ ks. k ∷ ks) xs)
    ∙ ap (λ n. get_or ws k 0 * weight_of tables x * f (k ∷ x) + n) (sum_begun ws tables f k xs)
    ∙ ap (λ n. n + get_or ws k 0 * sum_by rest xs) (mul_assoc (get_or ws k 0) (weight_of tables x) (f (k ∷ x)))
    ∙ sym (mul-add (get_or ws k 0) (rest x) (sum_by rest xs))
    ∙ ap (λ n. get_or ws k 0 * n) (sym (sum_by-cons rest x xs))

sum_classes : (all ws : List ℕ) (i : ℕ) (g : ℕ → ℕ) → ((j : ℕ) → get_or all (i + j) 0 ≡ get_or ws j 0) → sum_by (λ k. get_or all k 0 * g k) (range_with_len i (length ws)) ≡ weigh ws i g
sum_classes all [] i g same = refl
sum_classes all (w ∷ ws) i g same =
    let here : get_or all i 0 * g i ≡ w * g i = ap (λ n. get_or all n 0 * g i) (sym (add-zero i)) ∙ ap (λ n. n * g i) (same 0) in
    let rest : sum_by (λ k. get_or all k 0 * g k) (range_with_len (i + 1) (length ws)) ≡ weigh ws (suc i) g =
    sum_classes all ws (i + 1) g (λ j. ap (λ n. get_or all n 0) (omega arith) ∙ same (suc j)) ∙ ap (λ n. weigh ws n g) (omega arith) in
    omega (arith, here, rest, sum_by-cons (λ k. get_or all k 0 * g k) i (range_with_len (i + 1) (length ws)))

-- tables of n classes each
abbrev pub AllLong : ℕ → List (List ℕ) → Type 0
AllLong n [] = Unit {0}
AllLong n (ws ∷ tables) = (length ws ≡ n) × AllLong n tables

replicate_long : (ws : List ℕ) (h : ℕ) → AllLong (length ws) (replicate h ws)
replicate_long ws zero = tt
replicate_long ws (suc h) = (refl, replicate_long ws h)

-- the sum of weight × f over all sequences of classes out of n, which have a table for each of their places
abbrev weighted : ℕ → List (List ℕ) → (List ℕ → ℕ) → ℕ
weighted n tables f = sum_by (λ classes. weight_of tables classes * f classes) (sequences n (length tables))

-- the sum over the sequences, one class after the other
weighted_is : (n : ℕ) (tables : List (List ℕ)) (f : List ℕ → ℕ) → AllLong n tables → weighted n tables f ≡ over_all tables f
weighted_is n [] f long = omega arith
weighted_is n (ws ∷ tables) f long =
    let rest : ℕ → ℕ = λ k. weighted n tables (λ ks. f (k ∷ ks)) in
    sum_joined (λ ks. weight_of (ws ∷ tables) ks * f ks) (λ k. map (λ ks. k ∷ ks) (sequences n (length tables))) (range_with_len 0 n)
    ∙ sum_same (λ k. sum_by (λ ks. weight_of (ws ∷ tables) ks * f ks) (map (λ ks. k ∷ ks) (sequences n (length tables)))) (λ k. get_or ws k 0 * rest k) (range_with_len 0 n) (λ k. sum_begun ws tables f k (sequences n (length tables)))
    ∙ ap (λ m. sum_by (λ k. get_or ws k 0 * rest k) (range_with_len 0 m)) (sym long.0)
    ∙ sum_classes ws ws 0 rest (λ j. ap (λ n. get_or ws n 0) (omega arith))
    ∙ weigh_same ws 0 rest (λ k. over_all tables (λ ks. f (k ∷ ks))) (λ k. weighted_is n tables (λ ks. f (k ∷ ks)) long.1)

-- the same of one table in every place
pub weighted_alike : (ws : List ℕ) (h : ℕ) (f : List ℕ → ℕ) → sum_by (λ classes. weight_of (replicate h ws) classes * f classes) (sequences (length ws) h) ≡ over_all (replicate h ws) f
weighted_alike ws h f =
    ap (λ n. sum_by (λ classes. weight_of (replicate h ws) classes * f classes) (sequences (length ws) n)) (sym (length-replicate h ws))
    ∙ weighted_is (length ws) (replicate h ws) f (replicate_long ws h)
