mod Strokes
