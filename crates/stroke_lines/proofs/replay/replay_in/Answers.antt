use Rattle.std.proofs.Common.{◌≡◌, [], length, ◌-◌, subst, ap, ◌∙◌, arith}
use Rattle.maths.specs.Tables.{tabled, rows_of}
use Rattle.maths.specs.ByteRows.{rows_in}
use Rattle.maths.specs.declared.table.TableHost.{TableHost}
use Rattle.storage.specs.Places.{place_count}
use Rattle.sinks.specs.Records.{recorded}
use Rattle.lines.specs.Listing.{accepted}
use Rattle.lines.specs.Printing.{text_of}
use Rattle.lines.specs.Streams.{Writes}
use Rattle.stroke.specs.Histories.{call}
use Rattle.stroke_lines.specs.Outlined.{empty_list}
use Rattle.stroke_lines.proofs.Strokes.{drawn_as}
use Rattle.stroke_lines.proofs.replay.replay_in.Goals as goal

pub returns : goal.returns
returns g c =
    let setting = c.args.setting in
    let answer = c.stroke_with_storage-answer.result in
    let functions = ap (λ (h : TableHost). tabled (rows_of h.rows)) c.from_bytes-host.ensures in
    let capacity = ap place_count c.new-storage.ensures ∙ c.requires.segments in
    let units : length c.args.places.now - 0 ≡ setting.places = omega (arith, c.requires.places) in
    let empty : recorded c.new-list.result ≡ empty_list setting.places =
    ap recorded c.new-list.ensures ∙ (λ i. record { list = []; units = units i; price = λ k. 1; map = λ c. c }) in
    let same = drawn_as (tabled (rows_in setting.rows.now)) setting.segments setting.places setting.budget (accepted c.args.job.now)
    (λ i. call (c.as_slice.ensures i) c.args.job.now.style (c.as_slice-2.ensures i) (functions i) (capacity i) setting.budget answer)
    empty c.stroke_with_storage-answer.ensures.promised in
    subst (λ ls. Writes (g.W.Write.contents c.args.writer.now) (g.W.Write.contents c.print_drawn.new.writer) c.print_drawn.result (text_of ls)) same
    (rw c.finish.ensures at c.print_drawn.ensures)
