use Rattle.std.proofs.Common.{◌+◌, ◌≤◌, [], ◌∷◌, ◌++◌, length, inl, inr, refl, ap, ◌∙◌, subst, arith}
use Rattle.job.specs.Spelling.{floats}
use Rattle.job.specs.Writing.{written, record_of}
use Rattle.job.proofs.Overwrites.{written_then}
use Rattle.job.proofs.writer.put_record.Goals as goal

pub returns-in-MoveTo-clause-bytes : goal.returns-in-MoveTo-clause-bytes
returns-in-MoveTo-clause-bytes c =
    let bytes = c.args.bytes.now in
    let p = floats (c.in-MoveTo.p.x ∷ c.in-MoveTo.p.y ∷ []) in
    let l = c.command_letter.result ∷ [] in
    let room : c.args.place + length (record_of c.args.command) ≤ length bytes = c.requires in
    let first = written_then bytes c.args.place l p c.put.ensures c.put_point-in-MoveTo.ensures.bytes (omega arith) in
    first ∙ ap (λ row. written bytes c.args.place row) (elim c.in-MoveTo.is [
      | inl is ↦ rw (c.command_letter.ensures, is) refl
      | inr is ↦ rw (c.command_letter.ensures, is) refl
    ])

pub returns-in-QuadTo-clause-bytes : goal.returns-in-QuadTo-clause-bytes
returns-in-QuadTo-clause-bytes c =
    let bytes = c.args.bytes.now in
    let a = floats (c.in-QuadTo.a.x ∷ c.in-QuadTo.a.y ∷ []) in
    let p = floats (c.in-QuadTo.p.x ∷ c.in-QuadTo.p.y ∷ []) in
    let l = c.command_letter.result ∷ [] in
    let room : c.args.place + 17 ≤ length bytes = subst (λ k. c.args.place + length (record_of k) ≤ length bytes) c.in-QuadTo.is c.requires in
    let first = written_then bytes c.args.place l a c.put.ensures c.put_point-in-QuadTo.ensures.bytes (omega arith) in
    let second = written_then bytes c.args.place (l ++ a) p first c.put_point-in-QuadTo-2.ensures.bytes (omega arith) in
    second ∙ ap (λ row. written bytes c.args.place row) (rw (c.command_letter.ensures, c.in-QuadTo.is) refl)

pub returns-in-CurveTo-clause-bytes : goal.returns-in-CurveTo-clause-bytes
returns-in-CurveTo-clause-bytes c =
    let bytes = c.args.bytes.now in
    let a = floats (c.in-CurveTo.a.x ∷ c.in-CurveTo.a.y ∷ []) in
    let b = floats (c.in-CurveTo.b.x ∷ c.in-CurveTo.b.y ∷ []) in
    let p = floats (c.in-CurveTo.p.x ∷ c.in-CurveTo.p.y ∷ []) in
    let l = c.command_letter.result ∷ [] in
    let room : c.args.place + 25 ≤ length bytes = subst (λ k. c.args.place + length (record_of k) ≤ length bytes) c.in-CurveTo.is c.requires in
    let first = written_then bytes c.args.place l a c.put.ensures c.put_point.ensures.bytes (omega arith) in
    let second = written_then bytes c.args.place (l ++ a) b first c.put_point-in-CurveTo.ensures.bytes (omega arith) in
    let third = written_then bytes c.args.place (l ++ a ++ b) p second c.put_point-in-CurveTo-2.ensures.bytes (omega arith) in
    third ∙ ap (λ row. written bytes c.args.place row) (rw (c.command_letter.ensures, c.in-CurveTo.is) refl)
