-- A reader, and what one call of it does.
use Rattle.std.specs.Prelude.{ℕ, ◌+◌, List, drop, Some, None, Ok, Err, Option, Result}
use Rattle.std.specs.Borrow.{Bor}
use Rattle.path.specs.declared.refusal.Reason.{Reason}
use Rattle.path.specs.declared.refusal.Refusal.{Refusal}
use Rattle.job.specs.declared.item.Item.{Item}
use Rattle.job.specs.Reading.{first}
use Rattle.job.specs.declared.reader.JobReader.{JobReader}

-- at the first byte
abbrev pub start : Bor (List ℕ) → JobReader
start bytes = record { bytes = bytes; place = 0 }

-- the bytes that are still to be read
abbrev pub left : JobReader → List ℕ
left r = drop r.place r.bytes.now

-- n bytes further on
abbrev pub moved : JobReader → ℕ → JobReader
moved r n = record { bytes = r.bytes; place = r.place + n }

-- of the letter at the place; nothing was sent
abbrev pub refusal : JobReader → Reason → Refusal
refusal r e = record { reason = e; place = r.place; sent = 0 }

-- by what is found at the place
abbrev pub answer_by : Result (Option (Item × ℕ)) Reason → JobReader → Result (Option Item) Refusal
answer_by (Ok None) r = Ok None
answer_by (Ok (Some x)) r = Ok (Some x.0)
answer_by (Err e) r = Err (refusal r e)

abbrev pub reader_by : Result (Option (Item × ℕ)) Reason → JobReader → JobReader
reader_by (Ok None) r = r
reader_by (Ok (Some x)) r = moved r x.1
reader_by (Err e) r = r

abbrev pub next_answer : JobReader → Result (Option Item) Refusal
next_answer r = answer_by (first (left r)) r

-- only past an item does the reader move
abbrev pub next_reader : JobReader → JobReader
next_reader r = reader_by (first (left r)) r
