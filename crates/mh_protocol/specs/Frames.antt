-- A message in its frame.
use Rattle.std.specs.Prelude.{◌≡◌, ℕ, ◌-◌, ◌≤◌, nat_lt, if◌then◌else◌, List, ◌++◌, length, None}
use Rattle.std.specs.Fmt.{decimal}
use Rattle.mh_protocol.specs.declared.frame.TheConstants.{HEAD_END, LARGEST_MESSAGE, LENGTH_NAME, MOST_LINES}
use Rattle.mh_protocol.specs.declared.frame.Frame.{Frame}
use Rattle.mh_protocol.specs.declared.frame.Frame.TheVariants as frame
use Rattle.mh_protocol.specs.declared.head.Head.{Head}
use Rattle.mh_protocol.specs.declared.head.Head.TheVariants as head
use Rattle.mh_protocol.specs.Heads.{head_in}

-- a message of so many bytes, of which so many came behind so many of its header
abbrev pub message_of : ℕ → ℕ → ℕ → Frame
message_of start left n =
    if nat_lt LARGEST_MESSAGE n then frame.Large start n else (if nat_lt left n then frame.More else frame.Whole start n)

abbrev pub frame_behind : ℕ → Head → Frame
frame_behind all head.More = frame.More
frame_behind all head.Wrong = frame.Wrong
frame_behind all (head.Ends left n) = message_of (all - left) left n

-- the message at the front
unfoldable pub frame_in : List ℕ → Frame
frame_in bs = frame_behind (length bs) (head_in MOST_LINES None bs)

-- the header of a message of so many bytes
unfoldable pub head_text : ℕ → List ℕ
head_text n = LENGTH_NAME.now ++ decimal n ++ HEAD_END.now

-- THE LAW

-- a message in its frame is read as that message, whatever came behind it
abbrev pub FramesReadBack : Type 0
FramesReadBack =
    (body rest : List ℕ) → length body ≤ LARGEST_MESSAGE
    → frame_in (head_text (length body) ++ body ++ rest) ≡ frame.Whole (length (head_text (length body))) (length body)
