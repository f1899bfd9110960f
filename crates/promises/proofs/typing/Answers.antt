-- A text typed into any words: every answer is from its table, and no second one is. In order:
--   type_answers   the claim, by whether the words are a sound store
--   one_type       one answer
-- Assumes nothing.
use mathlib.Core.Path.{◌≡◌, refl, sym, ◌∙◌}
use mathlib.Core.Logic.{inl, inr, ◌≢◌}
use mathlib.Core.List.{List, [], ◌∷◌}
use Prim.Native.Nat.{ℕ, zero, suc}
use native.Mathlib.Omega.{arith}
use Rattle.meaning.specs.Sound.{Sound}
use Rattle.meaning.specs.Verdicts.{Verdict}
use Rattle.meaning.specs.Check.{check}
use Rattle.meaning.specs.Typed.{type_in}
use Rattle.meaning.proofs.check.Checking.{check_sound}
use Rattle.meaning.proofs.reader.Leftmost.{StopNumber}
use Rattle.meaning.proofs.typed.Cases.{type_unsound}
use Rattle.promises.specs.Table.{OneOf}
use Rattle.promises.specs.Reading.{ends_too_soon, stops_at}
use Rattle.promises.specs.Typing.{TypedAs, no_register, no_text, no_room, has_room, TypeTable, TypeAnswers}
use Rattle.promises.specs.Unique.{OneType}
use Rattle.promises.proofs.table.Rules.{judged, judged_number, judged_zero}
use Rattle.promises.proofs.typing.Typing.{refused_number, types_do}
use Rattle.promises.proofs.unique.Texts.{typed_once}
use Rattle.promises.proofs.unique.Outcomes.{judged_once, done_parts, unsound_check}

-- ---- every answer is from the table

abbrev Numbers : ℕ → Type 0
Numbers s = OneOf s (0 ∷ 1 ∷ 2 ∷ 3 ∷ 13 ∷ 16 ∷ 20 ∷ 21 ∷ 23 ∷ 24 ∷ [])

-- the statuses whose value is 0
abbrev Plain : ℕ → Type 0
Plain s = OneOf s (0 ∷ 1 ∷ 2 ∷ 16 ∷ 20 ∷ [])

module _ (s : ℕ) where
  stop_number_listed : StopNumber s → Numbers s
  stop_number_listed (inl e) = inr (inr (inr (inr (inl e))))
  stop_number_listed (inr (inl e)) = inr (inr (inr (inr (inr (inr (inr (inl e)))))))
  stop_number_listed (inr (inr (inl e))) = inr (inr (inr (inr (inr (inr (inr (inr (inl e))))))))
  stop_number_listed (inr (inr (inr e))) = inr (inr (inr (inr (inr (inr (inr (inr (inr (inl e)))))))))

  plain_away : Plain s → (s ≢ 3) × (s ≢ 13) × (s ≢ 21) × (s ≢ 23) × (s ≢ 24)
  plain_away (inl e) = (omega arith, omega arith, omega arith, omega arith, omega arith)
  plain_away (inr (inl e)) = (omega arith, omega arith, omega arith, omega arith, omega arith)
  plain_away (inr (inr (inl e))) = (omega arith, omega arith, omega arith, omega arith, omega arith)
  plain_away (inr (inr (inr (inl e)))) = (omega arith, omega arith, omega arith, omega arith, omega arith)
  plain_away (inr (inr (inr (inr (inl e))))) = (omega arith, omega arith, omega arith, omega arith, omega arith)
  plain_away (inr (inr (inr (inr (inr e))))) = absurd e

  plain_stop : Plain s → StopNumber s → ⊥
  plain_stop o (inl e) = (plain_away o).1 e
  plain_stop o (inr (inl e)) = (plain_away o).2 e
  plain_stop o (inr (inr (inl e))) = (plain_away o).3 e
  plain_stop o (inr (inr (inr e))) = (plain_away o).4 e

module _ (F : ℕ) (ws : List ℕ) (top d : ℕ) (bs : List ℕ) where
  says_number : (v : Verdict) → TypedAs F ws top d bs v → Numbers v.status
  says_number v (no_register h) = inr (inr (inr (inr (inr (inr (inl refl))))))
  says_number v (no_text _ h n t) = stop_number_listed v.status (refused_number bs v t)
  says_number v (no_room h n l) = inr (inr (inr (inr (inr (inl refl)))))
  says_number v (has_room h n l) = inl refl

  says_value : (v : Verdict) → TypedAs F ws top d bs v → Plain v.status → v.value ≡ 0
  says_value v (no_register h) o = refl
  says_value v (no_text _ h n t) o = absurd (plain_stop v.status o (refused_number bs v t))
  says_value v (no_room h n l) o = refl
  says_value v (has_room h n l) o = refl

  says_rule : (v : Verdict) → TypedAs F ws top d bs v → v.rule ≡ 0
  says_rule v (no_register h) = refl
  says_rule v (no_text _ h n (ends_too_soon b t)) = refl
  says_rule v (no_text _ h n (stops_at k s l b m t)) = refl
  says_rule v (no_room h n l) = refl
  says_rule v (has_room h n l) = refl

  sound_table : Sound F ws top → TypeTable F ws top d bs (type_in F ws top d bs)
  sound_table s =
      let t = types_do F ws top s d bs in
      record {
        number = says_number (type_in F ws top d bs).verdict t.says;
        value = says_value (type_in F ws top d bs).verdict t.says;
        rule = λ _. says_rule (type_in F ws top d bs).verdict t.says;
        types = λ _. t;
        unsound = λ n. absurd (n s);
      }

  unsound_table : (n : ℕ) → (check F ws top).status ≡ suc n → TypeTable F ws top d bs (type_in F ws top d bs)
  unsound_table n e =
      let v = check F ws top in
      let j = judged F ws top in
      let z : v.status ≢ 0 = (λ f. omega arith) in
      rw (type_unsound F ws top d bs z)
      (record {
        number = judged_number F ws top (13 ∷ 16 ∷ 20 ∷ 21 ∷ 23 ∷ 24 ∷ []) v j;
        value = λ o. (judged_zero F ws top v j (plain_away v.status o).0).0;
        rule = λ o. (judged_zero F ws top v j o).1;
        types = λ s. absurd (unsound_check F ws top n e s);
        unsound = λ _. (j, z, refl, refl);
      })

pub type_answers : TypeAnswers
type_answers F ws top d bs = go (check F ws top).status refl
  where
    go : (n : ℕ) → (check F ws top).status ≡ n → TypeTable F ws top d bs (type_in F ws top d bs)
    go zero e = sound_table F ws top d bs (check_sound F ws top e)
    go (suc n) e = unsound_table F ws top d bs n e

-- ---- one answer

pub one_type : OneType
one_type F ws top d bs r q a b = go (check F ws top).status refl
  where
    go : (n : ℕ) → (check F ws top).status ≡ n → r ≡ q
    go zero e = let s = check_sound F ws top e in typed_once F ws top d bs s r q (a.types s) (b.types s)
    go (suc n) e =
        let x = a.unsound (unsound_check F ws top n e) in
        let y = b.unsound (unsound_check F ws top n e) in
        done_parts r q (judged_once F ws top r.verdict q.verdict x.0 y.0) (x.2 ∙ sym y.2)
        (x.3 ∙ sym y.3)
