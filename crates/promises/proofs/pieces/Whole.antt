-- What counting a whole text answers: by cases, from its table, and nothing else; and what typing it in will. In order:
--   count_whole, count_refused   what counting answers, by whether the text is read whole
--   stop_listed                  a refusal's number is in the table
--   count_answers, one_count     the claims
--   count_tells                  what typing it in will answer
-- Assumes nothing.
use mathlib.Core.Path.{◌≡◌, refl, sym, ap, ap₂, ◌∙◌, subst}
use mathlib.Core.Logic.{inl, inr}
use mathlib.Core.Bool.{Bool, true, false, false≢true}
use mathlib.Core.List.{List, [], ◌∷◌}
use Prim.Native.Nat.{ℕ, ◌≤◌, ◌<◌}
use Rattle.meaning.specs.Limits.{depth_limit, terms_limit}
use Rattle.meaning.specs.Expr.{Expr}
use Rattle.meaning.specs.Sound.{Sound}
use Rattle.meaning.specs.Verdicts.{Verdict, only}
use Rattle.meaning.specs.Lay.{all_terms}
use Rattle.meaning.specs.Text.{text, Readable}
use Rattle.meaning.specs.Reader.{is_whole, stop_verdict, expression, reads, blank}
use Rattle.meaning.specs.Typed.{type_in}
use Rattle.meaning.specs.Pieces.{most_terms, Count, counts, uncounted, count_of, count_text}
use Rattle.meaning.proofs.reader.Leftmost.{StopNumber}
use Rattle.promises.specs.Table.{OneOf}
use Rattle.promises.specs.Reading.{RefusedText, ends_too_soon, stops_at}
use Rattle.promises.specs.Typing.{said, Whole, no_text, no_room, has_room}
use Rattle.promises.specs.Pieces.{MostOf, CountedAs, whole, refused, CountTable, CountAnswers, OneCount, Told}
use Rattle.promises.specs.Pieces.{CountTells}
use Rattle.promises.proofs.reading.Refusing.{reads_back, writes_back, whole_refused, stops_leftmost, one_refusal}
use Rattle.promises.proofs.typing.Typing.{refused_number, stop_away, types_do}
use Rattle.promises.proofs.unique.Texts.{says_once}
use Rattle.promises.proofs.pieces.Most.{most_in_words, one_most}

-- ---- by cases

pub stop_listed : (s : ℕ) → StopNumber s → OneOf s (0 ∷ 13 ∷ 21 ∷ 23 ∷ 24 ∷ [])
stop_listed s (inl e) = inr (inl e)
stop_listed s (inr (inl e)) = inr (inr (inl e))
stop_listed s (inr (inr (inl e))) = inr (inr (inr (inl e)))
stop_listed s (inr (inr (inr e))) = inr (inr (inr (inr (inl e))))

module _ (bs : List ℕ) where
  count_whole : Whole bs → count_text bs ≡ counts (all_terms (said bs)) (most_terms (said bs))
  unfolding count_text count_of
  count_whole w = rw w refl

  count_refused : is_whole (reads blank bs).place ≡ false
      → count_text bs ≡ uncounted (stop_verdict (reads blank bs).place)
  unfolding count_text count_of
  count_refused w = rw w refl

  table_whole : Whole bs → CountTable bs (count_text bs)
  table_whole w =
      let t = writes_back bs w in
      subst (λ (r : Count). CountTable bs r) (sym (count_whole w))
      (record {
        number = inl refl;
        says = whole (said bs) (most_terms (said bs)) t.0 t.2 t.1 (most_in_words (said bs));
        done = λ _. refl;
        none = λ n. absurd (n refl);
        rule = refl;
      })

  no_rule : (v : Verdict) → RefusedText bs v → v.rule ≡ 0
  no_rule v (ends_too_soon b n) = refl
  no_rule v (stops_at k s l b n h) = refl

  table_refused : is_whole (reads blank bs).place ≡ false → CountTable bs (count_text bs)
  table_refused w =
      let v = stop_verdict (reads blank bs).place in
      let t = stops_leftmost bs w in
      let n = refused_number bs v t in
      subst (λ (r : Count). CountTable bs r) (sym (count_refused w))
      (record {
        number = stop_listed v.status n;
        says = refused v t;
        done = λ e. absurd ((stop_away v.status n).0 e);
        none = λ _. (refl, refl);
        rule = no_rule v t;
      })

pub count_answers : CountAnswers
count_answers bs = go (is_whole (reads blank bs).place) refl
  where
    go : (t : Bool) → is_whole (reads blank bs).place ≡ t → CountTable bs (count_text bs)
    go true w = table_whole bs w
    go false w = table_refused bs w

-- ---- one answer

-- two expressions that may be read and have one text are one
text_once : (e f : Expr) → Readable depth_limit e → Readable depth_limit f → all_terms e ≤ terms_limit
    → all_terms f ≤ terms_limit → text e ≡ text f → e ≡ f
text_once e f p q l m h =
    sym (reads_back e p l).1 ∙ (ap (λ (x : List ℕ). expression (reads blank x)) h ∙ (reads_back f q m).1)

counted_once : (bs : List ℕ) (r q : Count) → CountedAs bs r → CountedAs bs q → r ≡ q
counted_once bs r q (whole e m p t l k) (whole f n p' t' l' k') =
    let x = text_once e f p p' l l' (t ∙ sym t') in
    ap₂ counts (ap all_terms x) (one_most f m n (subst (λ (y : Expr). MostOf y m) x k) k')
counted_once bs r q (whole e m p t l k) (refused v h) = absurd (whole_refused bs e p l t v h)
counted_once bs r q (refused v h) (whole e m p t l k) = absurd (whole_refused bs e p l t v h)
counted_once bs r q (refused v h) (refused w k) = ap uncounted (one_refusal bs v w h k)

pub one_count : OneCount
one_count bs r q a b = counted_once bs r q a.says b.says

-- ---- what typing it in will answer

module _ (F : ℕ) (ws : List ℕ) (top : ℕ) (s : Sound F ws top) (d : ℕ) (h : d < F) (bs : List ℕ) where
  abbrev v : Verdict
  v = (type_in F ws top d bs).verdict

  tells_whole : Whole bs → Told F ws top d (count_text bs) v
  tells_whole w =
      let x = (types_do F ws top s d bs).says in
      subst (λ (c : Count). Told F ws top d c v) (sym (count_whole bs w))
      (record {
        refused = λ n. absurd (n refl);
        room = λ _ l. says_once F ws top d bs v (only 0) x (has_room h w l);
        no_room = λ _ l. says_once F ws top d bs v (only 16) x (no_room h w l);
      })

  tells_refused : is_whole (reads blank bs).place ≡ false → Told F ws top d (count_text bs) v
  tells_refused w =
      let u = stop_verdict (reads blank bs).place in
      let t = stops_leftmost bs w in
      let n = (stop_away u.status (refused_number bs u t)).0 in
      let x = (types_do F ws top s d bs).says in
      subst (λ (c : Count). Told F ws top d c v) (sym (count_refused bs w))
      (record {
        refused = λ _. says_once F ws top d bs v u x (no_text u h (λ y. false≢true (sym w ∙ y)) t);
        room = λ e _. absurd (n e);
        no_room = λ e _. absurd (n e);
      })

pub count_tells : CountTells
count_tells F ws top s d h bs = go (is_whole (reads blank bs).place) refl
  where
    go : (t : Bool) → is_whole (reads blank bs).place ≡ t
        → Told F ws top d (count_text bs) (type_in F ws top d bs).verdict
    go true w = tells_whole F ws top s d h bs w
    go false w = tells_refused F ws top s d h bs w
