-- Lists of requests with their answers, one after the other: what is struck out of the whole is struck out of each
-- part; and how many requests and answers there are. Assumes nothing.
use mathlib.Core.Path.{◌≡◌, refl, ap}
use mathlib.Core.Bool.{cond}
use mathlib.Core.List.{List, [], ◌∷◌, ◌++◌}
use Prim.Native.Nat.{ℕ, zero, suc, ◌*◌}
use native.Mathlib.Omega.{arith}
use lib.ListN.{length}
use Rattle.meaning.specs.Verdicts.{Verdict}
use Rattle.promises.specs.Requests.{Request, requests, verdicts}
use Rattle.promises.specs.Alike.{is_collect, strike, strike_answers}

-- ---- the same in front of two lists

pub strike_front : (xs qs qs' : List Request) → strike qs ≡ strike qs' → strike (xs ++ qs) ≡ strike (xs ++ qs')
strike_front [] qs qs' e = e
strike_front (x ∷ xs) qs qs' e =
    ap (λ (l : List Request). cond (is_collect x) l (x ∷ l)) (strike_front xs qs qs' e)

pub strike_answers_front : (xs : List Request) (us : List Verdict) → length xs ≡ length us
    → (qs : List Request) (vs : List Verdict) (qs' : List Request) (vs' : List Verdict)
    → strike_answers qs vs ≡ strike_answers qs' vs'
    → strike_answers (xs ++ qs) (us ++ vs) ≡ strike_answers (xs ++ qs') (us ++ vs')
strike_answers_front [] [] n qs vs qs' vs' e = e
strike_answers_front [] (u ∷ us) n qs vs qs' vs' e = absurd (omega (arith, n))
strike_answers_front (x ∷ xs) [] n qs vs qs' vs' e = absurd (omega (arith, n))
strike_answers_front (x ∷ xs) (u ∷ us) n qs vs qs' vs' e =
    ap (λ (l : List Verdict). cond (is_collect x) l (u ∷ l))
    (strike_answers_front xs us (omega (arith, n)) qs vs qs' vs' e)

-- ---- four words a request, two an answer

pub requests_many : (n : ℕ) (cs : List ℕ) → length cs ≡ 4 * n → length (requests cs) ≡ n
requests_many zero [] e = refl
requests_many zero (o ∷ cs) e = absurd (omega arith)
requests_many (suc n) [] e = absurd (omega arith)
requests_many (suc n) (o ∷ []) e = absurd (omega arith)
requests_many (suc n) (o ∷ d ∷ []) e = absurd (omega arith)
requests_many (suc n) (o ∷ d ∷ a ∷ []) e = absurd (omega arith)
requests_many (suc n) (o ∷ d ∷ a ∷ b ∷ cs) e = ap suc (requests_many n cs (omega arith))

pub verdicts_many : (n : ℕ) (ws : List ℕ) → length ws ≡ 2 * n → length (verdicts ws) ≡ n
verdicts_many zero [] e = refl
verdicts_many zero (s ∷ ws) e = absurd (omega arith)
verdicts_many (suc n) [] e = absurd (omega arith)
verdicts_many (suc n) (s ∷ []) e = absurd (omega arith)
verdicts_many (suc n) (s ∷ v ∷ ws) e = ap suc (verdicts_many n ws (omega arith))
