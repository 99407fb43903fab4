use Rattle.lset_recording.proofs.reader.RecordingReader.take_calls.Goals as goal

pub returns : goal.returns
returns c = λ bytes is.
    let kept = is.judging.kept in
    record {
      told = is.told;
      judging = record {
        kept = record {
          opening = kept.opening;
          opens = kept.opens;
          judge = kept.judge;
          calls = kept.calls;
          keys = kept.keys;
          left = kept.left;
          cut_off = kept.cut_off;
        };
        section = is.judging.section;
        first = is.judging.first;
        number = is.judging.number;
      };
      held = is.held;
      lacks = is.lacks;
      line = is.line;
      goes = is.goes;
      counted = is.counted;
      sound = is.sound;
    }
