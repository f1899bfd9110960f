-- `file::judging::Trailer::read` meets its contract. Assumes nothing.
use Rattle.std.proofs.Common.{◌≡◌, ◌∙◌, ◌-◌, sym, ap, ℕ, length, arith}
use Rattle.std.proofs.lemmas.Result.{err_from_is_err_and}
use Rattle.meaning.specs.File.{trailer, file_edition, first_of}
use Rattle.meaning.proofs.file.Accepted.{checked_short}
use Rattle.file.proofs.Parts.{part_drop}
use Rattle.file.proofs.Trailers.{edition_no, edition_yes, no_stores}
use Rattle.file.proofs.judging.Trailer.read.Goals as goal

pub returns-then-file-lt-TRAILER : goal.returns-then-file-lt-TRAILER
returns-then-file-lt-TRAILER c = λ len. checked_short _ len c.if-file-lt-TRAILER.true

pub returns-in_err-first : goal.returns-in_err-first
unfolding trailer
returns-in_err-first c =
    let file = c.args.file.now in
    let n : c.word-edition.result ≡ file_edition file =
    rw (part_drop file (length file - 16)) at c.word-edition.ensures in
    let q = edition_no _ _ _ c.first_of.ensures c.in_err-first.ensures.value in
    let p = err_from_is_err_and c.from_residual.result c.from_residual.ensures.1 in
    rw (p.1, p.2, q.1) (no_stores file c.if-file-lt-TRAILER.false (ap (λ (x : ℕ). first_of x) (sym n) ∙ q.0))

pub returns : goal.returns
unfolding trailer
returns c =
    let file = c.args.file.now in
    let e = part_drop file (length file - 16) in
    let q = edition_yes _ _ _ c.first_of.ensures c.in_ok-first.ensures.value in
    record {
      long = c.if-file-lt-TRAILER.false;
      distance = rw e at c.word.ensures;
      cells = rw e at c.word-2.ensures;
      capacity = rw e at c.word-3.ensures;
      first = q.0 ∙ ap (λ (x : ℕ). first_of x) (rw e at c.word-edition.ensures);
      kind = q.1;
      low = q.2;
      few = omega arith;
      small = omega arith;
    }
