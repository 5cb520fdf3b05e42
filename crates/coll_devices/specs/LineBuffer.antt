-- How a line reader's fields show where it stands.
use Rattle.std.specs.Prelude.{◌≡◌, ◌≤◌, vec_len, slice_range}
use Rattle.coll_devices.specs.LineReading.{ReaderState}
use Rattle.coll_devices.specs.declared.line_reading.LineReader.TheInside.{Inside}
use Rattle.coll_devices.specs.declared.line_reading.TheConstants.{BUFFER_BYTES}

-- the line given and the bytes held back are parts of the buffer
abbrev pub reader_state : Inside → ReaderState
reader_state r =
    record {
      line = slice_range r.buffer.items r.line_start r.line_end;
      held = slice_range r.buffer.items r.start r.end;
      stop = r.stop;
      ended = r.ended;
    }

-- the buffer has its size, and both parts stand in it
pub record IsSoundReader (r : Inside) : Type 0 where
  pub size : vec_len r.buffer ≡ BUFFER_BYTES
  pub line : r.line_start ≤ r.line_end
  pub line_within : r.line_end ≤ BUFFER_BYTES
  pub held : r.start ≤ r.end
  pub held_within : r.end ≤ BUFFER_BYTES
