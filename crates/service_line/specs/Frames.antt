-- The frame layer: what the bytes of a frame ask, or why they ask nothing.
use Rattle.std.specs.Prelude.{ℕ, ◌+◌, ◌*◌, ◌%◌, cond, List, length, ℤ, Some, None, Ok, Err, Option, Result, ◌==◌, slice_index}
use Rattle.std.proofs.Common.{to_z}
use Rattle.std.specs.Int.{w16}
use Rattle.refusals.specs.declared.frame.FrameRefusal.{FrameRefusal}
use Rattle.refusals.specs.declared.frame.FrameRefusal.TheVariants as refused
use Rattle.service_line.specs.Formats.{sum_of}
use Rattle.service_line.specs.declared.request.Request.{Request}
use Rattle.service_line.specs.declared.request.Request.TheVariants as request

pub data Kind : Type 0 where
  post : Kind
  amend : Kind
  choose : Kind
  opening : Kind
  advise : Kind
  invoice : Kind

-- the first byte is the kind
abbrev pub kind_of : ℕ → Option Kind
kind_of b =
    cond (b == 1) (Some post)
    (cond (b == 2) (Some amend)
    (cond (b == 3) (Some choose)
    (cond (b == 4) (Some opening)
    (cond (b == 5) (Some advise)
    (cond (b == 6) (Some invoice) None)))))

-- how many bytes a frame of each kind has, the kind and the check among them
abbrev pub size_of : Kind → ℕ
size_of post = 8
size_of amend = 8
size_of choose = 9
size_of opening = 6
size_of advise = 2
size_of invoice = 3

-- the fields, by the place of their first byte
abbrev pub byte : List ℕ → ℕ → ℕ
byte frame i = slice_index frame i

abbrev pub unsigned : List ℕ → ℕ → ℕ
unsigned frame i = byte frame i * 256 + byte frame (i + 1)

abbrev pub signed : List ℕ → ℕ → ℤ
signed frame i = to_z w16 (unsigned frame i)

abbrev pub fields_of : Kind → List ℕ → Request
fields_of post frame = request.Post (unsigned frame 1) (signed frame 3) (signed frame 5)
fields_of amend frame = request.Amend (unsigned frame 1) (signed frame 3) (signed frame 5)
fields_of choose frame = request.Choose (byte frame 1) (unsigned frame 2) (unsigned frame 4) (unsigned frame 6)
fields_of opening frame = request.Open (unsigned frame 1) (byte frame 3) (byte frame 4)
fields_of advise frame = request.Advise
fields_of invoice frame = request.Invoice (byte frame 1)

-- refused for the kind, then for the length
abbrev pub asked_as : Option Kind → List ℕ → Result Request FrameRefusal
asked_as (Some kind) frame = cond (length frame == size_of kind) (Ok (fields_of kind frame)) (Err (refused.Length (length frame)))
asked_as None frame = Err (refused.Kind (byte frame 0))

abbrev pub asked : List ℕ → Result Request FrameRefusal
asked frame = asked_as (kind_of (byte frame 0)) frame

-- and then for the check
abbrev pub if_checked : ℕ → Result Request FrameRefusal → Result Request FrameRefusal
if_checked left (Ok request) = cond (left == 0) (Ok request) (Err (refused.Check left))
if_checked left (Err e) = Err e

-- what a frame asks
abbrev pub decoded : List ℕ → Result Request FrameRefusal
decoded frame = if_checked (sum_of frame % 256) (asked frame)
