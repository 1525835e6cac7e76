mod LaterParts
