-- The claims of specs/Unique.antt. A reply is got back from what it says.
-- Assumes nothing.
use mathlib.Core.Path.{◌≡◌, sym, ap, ◌∙◌}
use mathlib.Core.List.{List}
use Prim.Native.Nat.{ℕ}
use Rattle.meaning.specs.Verdicts.{Done}
use Rattle.meaning.specs.Batch.{Outcome}
use Rattle.meaning.specs.Text.{Printed}
use Rattle.meaning.specs.File.{Saved}
use Rattle.store.proofs.Final as store
use Rattle.capi.specs.Answers.{reply, verdict_is, done_is, outcome_is, printed_is, typed_is, saved_is}
use Rattle.capi.specs.Unique.{OneCheck, OneFresh, OneCollect, OneRun, OneLook, OnePrint, OneType}
use Rattle.capi.specs.Unique.{OneSave, OneLoad}
use Rattle.capi.specs.declared.Entry.{Entry}
use Rattle.capi.specs.declared.Filed.{Filed}
use Rattle.capi.specs.declared.Reply.{Reply}
use Rattle.capi.specs.declared.Text.{Text}

done_same : (r r' : Reply) (vs vs' : List ℕ) → done_is r vs ≡ done_is r' vs' → (r ≡ r') × (vs ≡ vs')
done_same r r' vs vs' e = (
  ap (λ (d : Done). reply d.verdict d.top) e,
  ap (λ (d : Done). d.words) e,
)

pub one_check : OneCheck
one_check ws top r r' p q =
    let e : verdict_is r ≡ verdict_is r' = p.0 ∙ sym q.0 in
    let t : r.top ≡ r'.top = p.1 ∙ sym q.1 in
    λ j. reply (e j) (t j)

pub one_fresh : OneFresh
one_fresh ws vs vs' r r' p q = done_same r r' vs vs' (p ∙ sym q)

pub one_collect : OneCollect
one_collect ws top vs vs' r r' p q = done_same r r' vs vs' (p ∙ sym q)

pub one_run : OneRun
one_run ws top calls out vs vs' os os' r r' p q =
    let e : outcome_is r vs os ≡ outcome_is r' vs' os' = p ∙ sym q in (
      ap (λ (o : Outcome). reply o.verdict o.top) e,
      ap (λ (o : Outcome). o.words) e,
      ap (λ (o : Outcome). o.answers) e,
    )

pub one_look : OneLook
one_look = store.one_span

pub one_print : OnePrint
one_print ws top i out vs vs' r r' p q =
    let e : printed_is r vs ≡ printed_is r' vs' = p ∙ sym q in (
      ap {B = Text} (λ (x : Printed). record {
        status = x.verdict.status;
        rule = x.verdict.rule;
        value = x.verdict.value;
        length = x.size;
      }) e,
      ap (λ (x : Printed). x.space) e,
    )

pub one_type : OneType
one_type ws top d bs vs vs' r r' p q =
    let e : typed_is r vs ≡ typed_is r' vs' = p ∙ sym q in (
      ap {B = Entry} (λ (x : Done). record {
        status = x.verdict.status;
        rule = x.verdict.rule;
        value = x.verdict.value;
        top = x.top;
      }) e,
      ap (λ (x : Done). x.words) e,
    )

pub one_save : OneSave
one_save ws top out vs vs' ss ss' r r' p q =
    let e : saved_is r vs ss ≡ saved_is r' vs' ss' = p ∙ sym q in (
      ap {B = Filed} (λ (x : Saved). record {
        status = x.verdict.status;
        rule = x.verdict.rule;
        value = x.verdict.value;
        top = x.top;
        length = x.size;
      }) e,
      ap (λ (x : Saved). x.words) e,
      ap (λ (x : Saved). x.space) e,
    )

pub one_load : OneLoad
one_load bs ws vs vs' r r' p q = done_same r r' vs vs' (p ∙ sym q)
