-- What holds of every history.
use Rattle.std.specs.Prelude.{◌≡◌, ◌⊎◌, ◌↔◌, ℕ, ◌+◌, ◌≤◌, Bool, IsTrue, List, ◌++◌, length, Option}
use Rattle.bd_disk.specs.Images.{InRange, AgreeBut}
use Rattle.bd_disk.specs.History.{Call, Put, Flush, Idle, History, After, clock, contents, contents_at, Now, Since}
use Rattle.bd_disk.specs.Made.{GoesOn, IsSettled, Makes, WritesOnly, WritesNothing}
use Rattle.bd_disk.specs.Trace.{trace, AddsTouches, IsNotWrite, StaysWithin, listed, reads_between, ReadsOnly}
use Rattle.bd_disk.specs.declared.touch.Touch.{Touch}

-- the contents are one of the images that a stop may leave
abbrev pub ContentsAreAnImage : Type 0
ContentsAreAnImage = (h : History) → Now h (contents h)

-- a write leaves what a stop before it might have left, with any bytes in its range
abbrev pub WriteLeavesItsRange : Type 0
WriteLeavesItsRange =
    (h : History) (at : ℕ) (bytes image : List ℕ) →
    Now (After h (Put at bytes)) image ↔
    ((before : List ℕ) × Now h before × AgreeBut (InRange at (length bytes)) before image)

-- a sync leaves the contents and nothing else
abbrev pub SyncLeavesContents : Type 0
SyncLeavesContents =
    (h : History) (image : List ℕ) → Now (After h Flush) image ↔ (image ≡ contents h)

-- any other call leaves what a stop before it might have left
abbrev pub IdleLeavesTheSame : Type 0
IdleLeavesTheSame =
    (h : History) (touch : Option Touch) (image : List ℕ) →
    Now (After h (Idle touch)) image ↔ Now h image

-- a settled history has its contents as the only image
abbrev pub SettledLeavesContents : Type 0
SettledLeavesContents =
    (h : History) → IsSettled h → (image : List ℕ) → Now h image ↔ (image ≡ contents h)

-- an image since a clock is one of a moment at which the clock was that or later
abbrev pub SinceIsFromAMoment : Type 0
SinceIsFromAMoment =
    (h : History) (t : ℕ) (image : List ℕ) →
    Since h t image ↔ ((moment : History) × GoesOn moment h × (t ≤ clock moment) × Now moment image)

-- the images since a run began are those of the run and those since it ended
abbrev pub SinceComposes : Type 0
SinceComposes =
    (a b c : History) → GoesOn a b → GoesOn b c → (image : List ℕ) →
    Since c (clock a) image ↔ (Since b (clock a) image ⊎ Since c (clock b) image)

-- a run changes the contents only where it writes
abbrev pub WritesChangeOnly : Type 0
WritesChangeOnly =
    (places : ℕ → Bool) (a b : History) → WritesOnly (λ place. IsTrue (places place)) a b →
    AgreeBut (λ place. IsTrue (places place)) (contents a) (contents b)

-- and each image since it began is one from before, but for where it writes
abbrev pub ImagesChangeOnly : Type 0
ImagesChangeOnly =
    (places : ℕ → Bool) (a b : History) → WritesOnly (λ place. IsTrue (places place)) a b →
    (image : List ℕ) → Since b (clock a) image →
    (before : List ℕ) × Now a before × AgreeBut (λ place. IsTrue (places place)) before image

-- the writes that the trace shows of a run lie where it writes
abbrev pub TraceStaysWithin : Type 0
TraceStaysWithin =
    (places : ℕ → Bool) (a b : History) → WritesOnly (λ place. IsTrue (places place)) a b →
    AddsTouches (StaysWithin (λ place. IsTrue (places place))) a b

-- the trace shows no write of a run without writes
abbrev pub TraceHasNoWrite : Type 0
TraceHasNoWrite = (a b : History) → WritesNothing a b → AddsTouches IsNotWrite a b

-- a run without writes keeps the contents and the images
abbrev pub NothingWritten : Type 0
NothingWritten =
    (a b : History) → WritesNothing a b →
    (contents b ≡ contents a) × ((image : List ℕ) → Now b image → Now a image)

-- the contents at a clock stay as they were then
abbrev pub ContentsAtStay : Type 0
ContentsAtStay = (a b : History) → GoesOn a b → contents_at b (clock a) ≡ contents a

-- the clock rises by one at each call
abbrev pub ClockRisesByOne : Type 0
ClockRisesByOne =
    (calls : List Call) (a b : History) → Makes calls a b → clock b ≡ clock a + length calls

-- the trace of exactly these calls
abbrev pub TraceOfCalls : Type 0
TraceOfCalls =
    (calls : List Call) (a b : History) → Makes calls a b → trace b ≡ trace a ++ listed (clock a) calls

-- the places that are read between two clocks, and then between the second and a third
abbrev pub ReadsCompose : Type 0
ReadsCompose =
    (h : History) (t u w : ℕ) → t ≤ u → u ≤ w →
    reads_between h t u ++ reads_between h u w ≡ reads_between h t w

-- the places that a run reads are those between its clocks, also later on
abbrev pub ReadsOfRunStay : Type 0
ReadsOfRunStay =
    (places : List ℕ) (a b c : History) → ReadsOnly places a b → GoesOn b c →
    reads_between c (clock a) (clock b) ≡ places
